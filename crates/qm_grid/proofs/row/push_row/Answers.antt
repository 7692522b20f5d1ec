use Rattle.{std.proofs.Common.◌≡◌, std.proofs.Common.arith, def_mesh.specs.HalfEdges.half_edges}
use Rattle.qm_grid.proofs.Found.{row_at, row_listed, row_inside, row_never}
use Rattle.qm_grid.proofs.row.push_row.Goals as goal

pub returns-then-is_cut : goal.returns-then-is_cut
returns-then-is_cut c =
    let i = c.loop-i.invariant in
    record {
      row = record {
        wide = omega arith;
        low = c.requires.dart;
        inside = λ k l. i.inside k (omega arith);
        ends = λ k e.
            let same : k ≡ c.loop-i.i = omega arith in
            cc (same, i.at, c.next.ensures.value, c.is_cut.ensures, c.if-is_cut.true);
      };
      cells = row_listed (half_edges c.args.cut.now.faces) c.args.start c.loop-i.i c.args.cells.now.items i.at i.listed
          c.in_ok-push.ensures.items;
    }

pub loop-i-preserved : goal.loop-i-preserved
loop-i-preserved c =
    let i = c.loop-i.invariant in
    let f = c.is_full.ensures in
    record {
      at = row_at (half_edges c.args.cut.now.faces) c.args.start c.loop-i.d c.east-d.result c.loop-i.i i.at
          c.east-d.ensures.value;
      low = c.east-d.ensures.dart;
      inside = row_inside _ f.laws _ f.full c.args.start c.loop-i.d c.loop-i.i i.at i.inside
          (cc (c.next.ensures.value, c.is_cut.ensures, c.if-is_cut.false));
      listed = row_listed (half_edges c.args.cut.now.faces) c.args.start c.loop-i.i c.args.cells.now.items i.at i.listed
          c.in_ok-push.ensures.items;
    }

pub unreachable-requires : goal.unreachable-requires
unreachable-requires c =
    let f = c.is_full.ensures in
    row_never _ f.laws _ f.full c.args.start c.loop-i.i c.requires.dart c.requires.west c.loop-i.invariant.inside
    (omega (arith, f.long, c.loop-i-test.false))
