use Rattle.std.specs.{Prelude.option_copied, List.flat_map, List.range_with_len}
use Rattle.{std.proofs.Common.◌≡◌, std.proofs.Common.◌++◌, def_cuttext.specs.LayoutText.whole_arc_line}

abbrev pub invariant-loop-a : Rattle.qm_report.proofs.layout.push_arcs.Given.invariant-loop-a
invariant-loop-a l = l.text.items
    ≡ l.fn.text.items ++ flat_map (whole_arc_line l.cut.soup (option_copied l.kept) l.cut.layout) (range_with_len 0 l.a)
