use Rattle.std.proofs.Common.{◌≡◌, ◌++◌, Some}
use Rattle.{std.specs.List.flat_map, std.specs.List.range_with_len, def_cuttext.specs.LayoutText.break_line}

abbrev pub invariant-loop-v : Rattle.qm_report.proofs.layout.push_broken.Given.invariant-loop-v
invariant-loop-v l =
    l.text.items ≡ l.fn.text.items ++ flat_map (break_line l.cut.soup (Some l.marks)) (range_with_len 0 l.v)
