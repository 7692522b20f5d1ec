use Rattle.std.proofs.Common.{rules, ◌≡◌, ◌+◌, ◌%◌, Bool, true, false, refl, arith}
use Rattle.qm_stitch.proofs.{DoubledPairs.told_more, Built.across, Built.lines_both}
use Rattle.{def_layout.specs.Layouts.way_number, qm_stitch.specs.Rims.along_lines}

opposite : (u : Bool) → way_number (across u) ≡ (way_number (along_lines u) + 2) % 4
opposite false = refl
opposite true = refl

pub returns-then-is_doubled_in : Rattle.qm_stitch.proofs.tight.mark_lines.Goals.returns-then-is_doubled_in
returns-then-is_doubled_in c arc low = told_more (c.mark_side.ensures _ c.side_along-side.ensures.side arc low)
    (c.mark_side-then-is_doubled_in.ensures (across c.args.upright) (search (rules, opposite)) arc (omega arith))
    (search (rules, lines_both, c.is_doubled_in.ensures.0 c.if-is_doubled_in.true))
