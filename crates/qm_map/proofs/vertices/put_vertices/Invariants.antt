use Rattle.{std.proofs.Common.map, std.specs.List.flat_map, std.specs.List.range_with_len}
use Rattle.{def_map.specs.MapText.spot_line, def_map.specs.Spots.spot_at, def_remesh.specs.NewPoints.lengths_in}

abbrev pub invariant-loop-v : Rattle.qm_map.proofs.vertices.put_vertices.Given.invariant-loop-v
invariant-loop-v g l =
    g.T.Output.takes l.initial.out l.out
    (flat_map (spot_line l.new.soup.faces l.new.soup.names)
    (map (spot_at l.new.layout l.new.shares (lengths_in l.new.lengths))
    (range_with_len 0 l.v)))
