use Rattle.std.proofs.Common.{rules, ◌<◌, length}
use Rattle.{def_layout.specs.Layouts.layout_of, def_layout.specs.Layouts.way_number, qm_offsets.proofs.Whole.way_for}
use Rattle.qm_stitch.proofs.Grids.{counts, side_low}
use Rattle.qm_stitch.proofs.point.border_number.Goals as goal

pub invariant_of-border : goal.invariant_of-border
invariant_of-border c =
    let n = c.args.numbered.now in
    let (way, same) = way_for c.args.side c.requires.side in
    let paved = n.numbers.whole.paved in
    let low : c.args.patch < length (layout_of n.t.now).patches = omega counts in
    rw (c.side_of.ensures, c.starts_on-starts.ensures, c.deref.ensures.value, ← same) (record {
      some = paved.sides_full c.args.patch way low;
      low = side_low (layout_of n.t.now) paved c.args.patch (way_number way) low (omega counts) (omega counts);
      begun = n.numbers.sides.each c.args.patch way low;
    })

pub side_number-requires : goal.side_number-requires
side_number-requires c = search rules

pub returns : goal.returns
returns c = rw c.side_of.ensures at c.side_number.ensures
