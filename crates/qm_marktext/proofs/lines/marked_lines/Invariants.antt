use Rattle.{std.proofs.Common.◌≡◌, std.proofs.Common.◌+◌, std.proofs.Common.length, std.specs.List.flat_map}
use Rattle.{std.specs.List.range_with_len, def_layout.specs.Layouts.layout_of, def_marks.specs.MarkedText.arc_text}
use Rattle.{def_remesh.specs.NewPoints.lengths_in, def_written.specs.Numbers.before_arc}

abbrev pub invariant-loop-arc : Rattle.qm_marktext.proofs.lines.marked_lines.Given.invariant-loop-arc
invariant-loop-arc l = record {
  text : l.text.items ≡ flat_map (arc_text l.marks (layout_of l.t) (lengths_in l.x)) (range_with_len 0 l.arc);
  before : l.before ≡ length l.t.nodes.items + before_arc (lengths_in l.x) l.arc;
}
