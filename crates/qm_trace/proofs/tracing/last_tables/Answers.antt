use Rattle.std.proofs.Common.{rules, ◌≡◌, ap, ◌∙◌, arith, ◌+◌, suc}
use Rattle.qm_trace.proofs.Ends.{all_over, end_at, first_on, first_queue, next_on, next_queue, none_ride, queue_low}
use Rattle.qm_trace.proofs.tracing.last_tables.Goals.{else-instants-test, then-instants-test+then-is_empty}
use Rattle.{qm_trace.specs.Tables.state_at, std.proofs.lemmas.Bool.Decides.nat_tests}
use Rattle.def_mesh.specs.Vertices.{vertex_count}
use Rattle.qm_trace.proofs.tracing.last_tables.Goals as goal

pub instants-init : goal.instants-init
instants-init c = search (rules, first_queue, first_on)

pub invariant_of-next : goal.invariant_of-next
invariant_of-next c = record {
  low = λ r m.
      let at = c.step-tables.ensures.at c.args.course.now.marks.now c.instants.counter c.instants.invariant.at in
      rw c.deref-in-instants-4.ensures.value (queue_low c.instants.invariant.at at c.instants.invariant.waits r
      (rw c.deref-in-instants-5.ensures.value at m));
}

pub instants-preserved : goal.instants-preserved
instants-preserved c =
    let at = c.step-tables.ensures.at c.args.course.now.marks.now c.instants.counter c.instants.invariant.at in
    let plus : c.instants.counter + 1 ≡ suc c.instants.counter = omega arith in
    record {
      ground = c.step-tables.ensures.ground;
      at = rw plus at;
      waits = rw (c.in_ok-queue-2.ensures, c.deref-in-instants-4.ensures.value, c.deref-in-instants-5.ensures.value)
          (next_queue c.instants.invariant.at at c.instants.invariant.waits);
      way = next_on c.instants.invariant.at c.instants.invariant.waits
          (grind (arith, nat_tests, c.is_empty.ensures, c.if-is_empty.false)) c.instants.invariant.way;
    }

pub returns : goal.returns
returns c = elim c.instants-test.branch [
  | else-instants-test w ↦
      let over : c.instants.counter ≡ vertex_count c.args.course.now.mesh.now =
      omega (arith, w.instants-test.false, c.instants.auto.counter-end, c.vertices-end.ensures.value) in
      end_at c.instants.invariant.at c.instants.invariant.way (omega (arith, over))
      (all_over c.faces-known.ensures.mesh.manifold c.args.course.now.lines (c.instants.invariant.at.riders_are
      ∙ ap (λ k. (state_at c.args.course.now.mesh.now c.args.course.now.marks.now k).riders) over))
  | then-instants-test+then-is_empty w ↦ end_at c.instants.invariant.at c.instants.invariant.way
      (omega (arith, w.instants-test.true, c.vertices-end.ensures.value)) (search (rules, none_ride))
]
