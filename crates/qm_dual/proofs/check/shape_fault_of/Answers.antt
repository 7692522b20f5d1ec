use Rattle.std.proofs.Common.{rules, arith}
use Rattle.{def_matching.specs.Dual.dual, qm_dual.proofs.Verdicts.nest_where_placed}

pub returns-clause-nest : Rattle.qm_dual.proofs.check.shape_fault_of.Goals.returns-clause-nest
returns-clause-nest c = nest_where_placed c.args.n (dual c.args.d.now) c.place_fault_of.result c.requires.few
    c.requires.sets (omega arith) (search rules)
