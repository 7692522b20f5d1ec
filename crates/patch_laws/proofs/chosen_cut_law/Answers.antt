use Rattle.patch_laws.proofs.Chosen.{chosen_cut_law}

pub returns : Rattle.patch_laws.proofs.chosen_cut_law.Goals.returns
returns c = chosen_cut_law
