pub returns : Rattle.merge_laws.proofs.joinable_law.Goals.returns
returns c = Rattle.merge_laws.proofs.Layouts.joinable_law
