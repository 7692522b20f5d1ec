pub returns : Rattle.qm_metric.proofs.law.root_law.Goals.returns
returns c = Rattle.qm_metric.proofs.StartLaws.root_law
