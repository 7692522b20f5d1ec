use Rattle.feature_laws.specs.Leads.{AreLed}

abbrev pub invariant-loop-d : Rattle.qm_feature.proofs.straightening.lead_all.Given.invariant-loop-d
invariant-loop-d l = AreLed l.mesh l.sources l.led l.d
