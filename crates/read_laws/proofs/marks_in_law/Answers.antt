pub returns : Rattle.read_laws.proofs.marks_in_law.Goals.returns
returns c = Rattle.read_laws.proofs.MarksRead.marks_in_law
