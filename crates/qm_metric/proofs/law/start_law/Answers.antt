pub returns : Rattle.qm_metric.proofs.law.start_law.Goals.returns
returns c = Rattle.qm_metric.proofs.StartLaws.start_law
