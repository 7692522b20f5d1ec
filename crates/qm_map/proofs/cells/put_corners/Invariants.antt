use Rattle.{std.proofs.Common.take, std.specs.List.flat_map, def_map.specs.MapText.seen_text}

abbrev pub invariant-loop-seen : Rattle.qm_map.proofs.cells.put_corners.Given.invariant-loop-seen
invariant-loop-seen g l = g.T.Output.takes l.initial.out l.out (flat_map seen_text (take l.seen-index l.corners))
