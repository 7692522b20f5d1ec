use Rattle.std.specs.List.{flat_map, range_with_len}
use Rattle.{std.proofs.Common.◌≡◌, std.proofs.Common.◌++◌, def_report.specs.GraphText.vertex_line}

abbrev pub invariant-loop-v : Rattle.qm_report.proofs.graph.push_vertices.Given.invariant-loop-v
invariant-loop-v l = l.text.items ≡ l.fn.text.items ++ flat_map (vertex_line l.mesh) (range_with_len 0 l.v)
