use Rattle.{std.proofs.lemmas.Result.on_err_weaker, std.proofs.lemmas.Result.on_ok_weaker}
use Rattle.{def_map.specs.MapText.map_head, def_map.specs.MapText.vertex_lines, def_remesh.specs.NewPoints.lengths_in}
use Rattle.{def_remesh.specs.CutSoups.Regrid, def_written.specs.NewFaces.face_count, def_written.specs.Numbers.vertices}
use Rattle.{def_io.specs.Bytes.Bytes, def_layout.specs.Layouts.gluing_of, qm_output.proofs.Prefixes.of_error}
use Rattle.qm_map.proofs.map.put_map.Goals as goal

-- The first two lines, and those of the vertices.
abbrev head_of : (new : Regrid) → Bytes
head_of new = map_head (vertices (gluing_of new.layout) (lengths_in new.lengths))
    (face_count (gluing_of new.layout) (lengths_in new.lengths))

abbrev spots_of : (new : Regrid) → Bytes
spots_of new = vertex_lines new.soup.faces new.soup.names new.layout new.shares (lengths_in new.lengths)

pub returns-in_err-put_head-clause-part : goal.returns-in_err-put_head-clause-part
returns-in_err-put_head-clause-part g c = of_error c.from_residual.result
    (g.met.T.Output.stops_before _ _ (head_of c.args.new.now) _ c.in_err-put_head.ensures.part)

pub returns-in_err-put_vertices-clause-part : goal.returns-in_err-put_vertices-clause-part
returns-in_err-put_vertices-clause-part g c = of_error c.from_residual-in_err-put_vertices.result
    (g.met.T.Output.stops_later _ _ _ (head_of c.args.new.now) _ c.in_ok-put_head.ensures.whole
    (g.met.T.Output.stops_before _ _ (spots_of c.args.new.now) _ c.in_err-put_vertices.ensures.part))

pub returns : goal.returns
returns g c =
    let laws = g.met.T.Output in
    let head = head_of c.args.new.now in
    let spots = spots_of c.args.new.now in
    record {
      whole = on_ok_weaker c.put_cells.result (λ last. laws.takes_more _ _ _ head _ c.in_ok-put_head.ensures.whole
          (laws.takes_more _ _ _ spots _ c.in_ok-put_vertices.ensures.whole last)) c.put_cells.ensures.whole;
      part = on_err_weaker c.put_cells.result (λ last. laws.stops_later _ _ _ head _ c.in_ok-put_head.ensures.whole
          (laws.stops_later _ _ _ spots _ c.in_ok-put_vertices.ensures.whole last)) c.put_cells.ensures.part;
    }
