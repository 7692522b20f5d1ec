pub returns : Rattle.read_laws.proofs.asides_in_law.Goals.returns
returns c = Rattle.read_laws.proofs.MarksRead.asides_in_law
