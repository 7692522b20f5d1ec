pub returns : Rattle.read_laws.proofs.task_layout_law.Goals.returns
returns c = Rattle.read_laws.proofs.LayoutsRead.task_layout_law
