pub returns : Rattle.read_laws.proofs.finished_marks_law.Goals.returns
returns c = Rattle.read_laws.proofs.FinishedMarks.finished_marks_law
