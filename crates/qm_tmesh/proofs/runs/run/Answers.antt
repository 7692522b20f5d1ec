use Rattle.std.proofs.Common.{rules, ◌≡◌, suc, ◌+◌, is_some, ap, ◌∙◌, arith}
use Rattle.{def_cut.specs.Steps.step_east, def_mesh.specs.HalfEdges.half_edges}
use Rattle.layout_laws.proofs.Runs.{walk_done, walk_never}
use Rattle.qm_tmesh.proofs.Walks.{listed_more, told_end, walk_straight, walk_inner}
use Rattle.qm_tmesh.proofs.runs.run.Goals as goal

pub returns-then-nodes-to : goal.returns-then-nodes-to
returns-then-nodes-to c =
    let s = c.args.start.now in
    let i = c.steps.invariant in
    let (listed, long) = listed_more (half_edges s.mesh.now) _ _ i.at i.listed c.in_ok-push.ensures.items in
    let ends = rw i.at at (told_end c.requires.marked _ c.to.ensures.value c.to.ensures.vertex c.if-nodes-to.true) in
    rw long (search (rules, walk_done))

pub unwrap-d-requires : goal.unwrap-d-requires
unwrap-d-requires c =
    let s = c.args.start.now in
    let i = c.steps.invariant in
    let off = told_end c.requires.marked c.steps.d c.to.ensures.value c.to.ensures.vertex c.if-nodes-to.false in
    ap is_some (c.straight.ensures.value ∙ walk_straight c.requires.marked s.low s.on i.at i.inner off)

pub steps-preserved : goal.steps-preserved
steps-preserved c =
    let s = c.args.start.now in
    let i = c.steps.invariant in
    let m = c.requires.marked in
    let off = told_end m c.steps.d c.to.ensures.value c.to.ensures.vertex c.if-nodes-to.false in
    let is : c.unwrap-d.result ≡ step_east (half_edges s.mesh.now) c.steps.d =
    cc (walk_straight m s.low s.on i.at i.inner off) in
    let next : suc c.steps.counter ≡ c.steps.counter + 1 = omega arith in
    record {
      at = rw (← next) (is ∙ ap (step_east (half_edges s.mesh.now)) i.at);
      low = rw c.unwrap-d.ensures at c.straight.ensures.dart;
      inner = walk_inner m s.low s.on i.at i.inner off;
      listed = (listed_more (half_edges s.mesh.now) s.dart c.steps.counter i.at i.listed c.in_ok-push.ensures.items).0;
    }

pub unreachable-requires : goal.unreachable-requires
unreachable-requires c =
    let s = c.args.start.now in
    let m = c.requires.marked in
    walk_never _ m.laws _ m.full _ m.stand s.dart c.steps.counter s.low s.on s.begins c.steps.invariant.inner
    (omega (arith, c.steps-test.false, m.long))
