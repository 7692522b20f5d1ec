use Rattle.std.proofs.Common.{◌≡◌, suc, ◌+◌, ap, ◌∙◌, arith, false, below_more}
use Rattle.{def_mesh.specs.Darts.next_of, def_mesh.specs.HalfEdges.half_edges, def_cut.specs.FullCut.is_on}
use Rattle.{def_cut.specs.Steps.norths, def_cut.specs.Steps.step_north, cut_laws.proofs.Rows.west_on}
use Rattle.{cut_laws.proofs.Rows.endless_north, qm_grid.proofs.Found.grid_listed, qm_grid.proofs.Found.grid_done}
use Rattle.qm_grid.proofs.grid.grid.Goals as goal

pub returns-then-is_cut : goal.returns-then-is_cut
returns-then-is_cut c =
    let i = c.loop-h.invariant in
    let f = c.is_full.ensures in
    let row = c.in_ok-w.ensures.row in
    let done = grid_done f.laws f.full i.at row i.inside c.requires.corner
    (cc (c.next.ensures.value, c.next-in-loop-h.ensures.value, c.is_cut.ensures, c.if-is_cut.true)) in
    record {
      grown = done;
      cells = grid_listed f.laws f.full i.at row i.inside i.listed c.in_ok-w.ensures.cells _ done.row;
    }

pub loop-h-preserved : goal.loop-h-preserved
loop-h-preserved c =
    let i = c.loop-h.invariant in
    let f = c.is_full.ensures in
    let mesh = half_edges c.args.cut.now.faces in
    let off : is_on c.args.cut.now.marks (next_of (next_of c.loop-h.start)) ≡ false =
    cc (c.next.ensures.value, c.next-in-loop-h.ensures.value, c.is_cut.ensures, c.if-is_cut.false) in
    let n : suc c.loop-h.h ≡ c.loop-h.h + 1 = omega arith in
    record {
      at = c.north-start.ensures.value ∙ (ap (step_north mesh) i.at ∙ ap (norths mesh c.args.corner) n);
      low = c.north-start.ensures.dart;
      west = rw c.north-start.ensures.value (west_on f.laws f.full c.loop-h.start i.low i.west off);
      inside = below_more (λ k. is_on c.args.cut.now.marks (next_of (next_of (norths mesh c.args.corner k))) ≡ false)
          c.loop-h.h i.inside (rw (← i.at) off);
      listed = grid_listed f.laws f.full i.at c.in_ok-w.ensures.row i.inside i.listed c.in_ok-w.ensures.cells;
    }

pub unreachable-requires : goal.unreachable-requires
unreachable-requires c =
    let f = c.is_full.ensures in
    endless_north f.laws f.full c.args.corner c.requires.corner.0 c.requires.corner.1
    (λ k l. c.loop-h.invariant.inside k (omega (arith, f.long, c.loop-h-test.false)))
