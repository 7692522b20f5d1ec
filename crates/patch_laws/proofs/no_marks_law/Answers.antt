use Rattle.patch_laws.proofs.Chosen.{no_marks_law}

pub returns : Rattle.patch_laws.proofs.no_marks_law.Goals.returns
returns c = no_marks_law
