use Rattle.{std.specs.List.flat_map, std.specs.List.range_with_len, def_remesh.specs.NewPoints.lengths_in}
use Rattle.{def_remesh.specs.NewSoup.spaced_place, std.proofs.Common.map, def_text.specs.Canonical.position_text}

abbrev pub invariant-loop-v : Rattle.qm_write.proofs.vertices.put_vertices.Given.invariant-loop-v
invariant-loop-v g l =
    g.T.Output.takes l.initial.out l.out
    (flat_map position_text (map (spaced_place l.new.soup.faces l.new.layout l.new.soup.pos l.new.shares
    (lengths_in l.new.lengths))
    (range_with_len 0 l.v)))
