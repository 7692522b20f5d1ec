use Rattle.std.proofs.Common.{rules, ◌≡◌, ◌+◌, ◌-◌, arith}
use Rattle.def_mesh.specs.HalfEdges.{half_edges}
use Rattle.qm_grid.proofs.Found.{row_at, row_inside, row_never}
use Rattle.qm_merge.proofs.corners.side_from.Goals as goal

pub returns-then-is_cut-clause-next : goal.returns-then-is_cut-clause-next
returns-then-is_cut-clause-next c =
    let place : c.loop-n.n ≡ c.loop-n.n + 1 - 1 = omega arith in
    cc (c.next-after.ensures.value, c.loop-n.invariant.at, place)

pub loop-n-preserved : goal.loop-n-preserved
loop-n-preserved c =
    let i = c.loop-n.invariant in
    let f = c.is_full.ensures in
    record {
      at = search (rules, row_at);
      low = c.east-d.ensures.dart;
      inside = row_inside _ f.laws _ f.full _ _ _ i.at i.inside (cc (c.if-is_cut.false));
    }

pub unreachable-requires : goal.unreachable-requires
unreachable-requires c = let f = c.is_full.ensures in
    row_never _ f.laws _ f.full c.args.corner c.loop-n.n c.requires.corner.0 c.requires.corner.2
    c.loop-n.invariant.inside (omega (arith, f.long, c.loop-n-test.false))
