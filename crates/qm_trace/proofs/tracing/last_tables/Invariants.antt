use Rattle.qm_trace.specs.Tables.{IsGround, IsOnItsWay, IsQueue, IsTableAt}

abbrev pub invariant-instants : Rattle.qm_trace.proofs.tracing.last_tables.Given.invariant-instants
invariant-instants l = record {
  ground : IsGround l.course.mesh.now l.tables.sight.ground.boundary.items l.tables.sight.ground.singular.items;
  at : IsTableAt l.course.mesh.now l.course.marks.now l.counter l.tables.riders.items l.tables.sight.stood.items
      l.tables.covered.items l.tables.sight.taken.items;
  waits : IsQueue l.tables.riders.items l.queue.items;
  way : IsOnItsWay l.course.mesh.now l.course.marks.now l.counter;
}
