use Rattle.patch_laws.proofs.Chosen.{one_cut_law}

pub returns : Rattle.patch_laws.proofs.one_cut_law.Goals.returns
returns c = one_cut_law
