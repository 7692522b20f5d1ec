use Rattle.qm_marks.proofs.EdgeMarks.{no_edge}

pub returns-in-None-clause-none : Rattle.qm_marks.proofs.ends.edge_dart.Goals.returns-in-None-clause-none
returns-in-None-clause-none c none = no_edge c.args.mesh.now c.args.u c.args.v
    (c.dart_between.ensures.none c.in-None.is) (c.dart_between-in-None.ensures.none none)
