use Rattle.qm_stages.proofs.{GridPoints.grid_low, Positions.patch_low}
use Rattle.{std.proofs.Common.◌≡◌, def_layout.specs.Layouts.gluing_of, def_written.specs.Numbers.vertex_number}
use Rattle.{def_written.specs.Points.point, def_remesh.specs.NewPoints.lengths_in, embedding_laws.proofs.Bounds.laid_of}
use Rattle.qm_stages.proofs.regridded.Regridded.point.Goals as goal

pub point-requires : goal.point-requires
point-requires c = record {
  patch = patch_low c.numbered.result.t.now c.numbered.ensures.layout c.requires.patch;
  column = rw (← c.numbered.ensures.layout, ← c.numbered.ensures.lengths) at c.requires.column;
  row = rw (← c.numbered.ensures.layout, ← c.numbered.ensures.lengths) at c.requires.row;
}

pub returns : goal.returns
returns c =
    let new = c.args.self.now in
    let number : c.point.result ≡ vertex_number (gluing_of new.layout) (lengths_in new.lengths)
    (point (gluing_of new.layout) (lengths_in new.lengths) c.args.patch c.args.i c.args.j) =
    cc (c.point.ensures, c.numbered.ensures.layout, c.numbered.ensures.lengths) in
    record {
      number = number;
      vertex = rw number (grid_low _ _ (laid_of new.layout c.numbered.ensures.laid.0) c.numbered.ensures.even _ _ _
          c.requires.patch c.requires.column c.requires.row);
    }
