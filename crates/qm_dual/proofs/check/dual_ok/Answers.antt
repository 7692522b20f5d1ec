use Rattle.{def_matching.specs.Dual.dual, qm_dual.proofs.Verdicts.bound_where_exact}

pub returns-clause-bound : Rattle.qm_dual.proofs.check.dual_ok.Goals.returns-clause-bound
returns-clause-bound c = bound_where_exact c.args.g.now.graph (dual c.args.d.now) c.args.g.now.small.lawful
    c.check_sets.result c.check_sets.ensures
