pub returns : Rattle.read_laws.proofs.marks_again_law.Goals.returns
returns c = Rattle.read_laws.proofs.MarksAgain.marks_again_law
