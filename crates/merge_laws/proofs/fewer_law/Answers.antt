pub returns : Rattle.merge_laws.proofs.fewer_law.Goals.returns
returns c = Rattle.merge_laws.proofs.Fewer.fewer_law
