use Rattle.std.proofs.Common.{rules, sym}

pub returns-clause-outermost : Rattle.qm_forest.proofs.forest.Forest.outermost.Goals.returns-clause-outermost
returns-clause-outermost c = (c.args.v, c.requires, sym (search rules))
