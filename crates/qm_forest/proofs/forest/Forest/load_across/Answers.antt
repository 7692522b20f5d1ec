use Rattle.{std.proofs.Common.rules, forest_laws.proofs.Grows.load_across}

pub returns-clause-value : Rattle.qm_forest.proofs.forest.Forest.load_across.Goals.returns-clause-value
returns-clause-value c =
    let load = load_across c.requires.ends.valid.valid.outermost c.args.u c.args.v (rw c.requires.ends.valid.vertices
    at c.requires.ends.vertices.0) (rw c.requires.ends.valid.vertices at c.requires.ends.vertices.1) c.requires.apart in
    search rules
