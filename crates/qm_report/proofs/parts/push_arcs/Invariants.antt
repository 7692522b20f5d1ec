use Rattle.{std.proofs.Common.◌≡◌, std.proofs.Common.◌++◌, std.specs.List.flat_map, std.specs.List.range_with_len}
use Rattle.{def_layout.specs.Layouts.layout_of, def_report.specs.GraphText.arc_line}

abbrev pub invariant-loop-a : Rattle.qm_report.proofs.parts.push_arcs.Given.invariant-loop-a
invariant-loop-a l = l.text.items ≡ l.fn.text.items ++ flat_map (arc_line (layout_of l.t)) (range_with_len 0 l.a)
