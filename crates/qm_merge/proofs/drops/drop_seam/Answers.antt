use Rattle.std.proofs.Common.{rules, ◌≡◌, suc, ◌+◌, ◌-◌, ap, ◌∙◌, arith}
use Rattle.qm_merge.proofs.Linked.{left_more, all_left, edge_twin, leads_to}
use Rattle.qm_merge.proofs.drops.drop_seam.Goals.{Joined-k-gt0, then-k-gt0, else-k-gt0}
use Rattle.{std.specs.Prelude.is_some, def_mesh.specs.HalfEdges.half_edges, merge_laws.proofs.Sides.side_low}
use Rattle.def_cut.specs.Steps.{easts, step_east}
use Rattle.qm_merge.proofs.drops.drop_seam.Goals as goal

pub east-d-requires-clause-dart : goal.east-d-requires-clause-dart
east-d-requires-clause-dart c = let f = c.requires.cutting in
    grind (arith, side_low f.laws f.full c.requires.seam.joinable.glued.near (c.loop-k.k - 1))

pub east-d-requires-clause-paired : goal.east-d-requires-clause-paired
east-d-requires-clause-paired c = let f = c.requires.cutting in
    ap is_some (leads_to f.laws f.full c.requires.seam.joinable.glued
    (omega (arith, c.loop-k-test.true, c.if-k-gt0.true)) c.loop-k.invariant.at).1

-- The walk stands on the edge that leaves.
at : (c : Joined-k-gt0) → c.if-k-gt0.d ≡ easts (half_edges c.args.mesh.now) c.args.s c.loop-k.k
at c = elim c.if-k-gt0.branch [
  | then-k-gt0 w ↦ let same : suc (c.loop-k.k - 1) ≡ c.loop-k.k = omega (arith, w.if-k-gt0.true) in
      search rules
  | else-k-gt0 w ↦ let same : c.loop-k.k - 1 ≡ c.loop-k.k = omega (arith, w.if-k-gt0.false) in
      cc (w.d-is, c.loop-k.invariant.at, same)
]

pub drop_edge-requires-clause-paired : goal.drop_edge-requires-clause-paired
drop_edge-requires-clause-paired c = let f = c.requires.cutting in
    ap is_some (edge_twin f.laws f.full c.requires.seam.joinable.glued (omega (arith, c.loop-k-test.true))
    (at (goal.at.drop_edge-requires-clause-paired c).Joined-k-gt0)).1

pub loop-k-preserved : goal.loop-k-preserved
loop-k-preserved c =
    let here = at (goal.at.loop-k-preserved c).Joined-k-gt0 in
    let d = c.drop_edge.ensures in
    let place : c.loop-k.k ≡ c.loop-k.k + 1 - 1 = omega arith in
    record { long = d.long ∙ c.loop-k.invariant.long; at = cc (here, place); left = search (rules, left_more) }

pub returns-clause-without : goal.returns-clause-without
returns-clause-without c =
    let same : c.loop-k.k ≡ c.args.seam.long = omega (arith, c.loop-k-test.false, c.loop-k.auto.k-end) in
    all_left (rw same at c.loop-k.invariant.left)
