use Rattle.std.proofs.Common.{◌<◌, ◌-◌, ◌/◌, ◌%◌, refl}
use Rattle.qm_stitch.specs.{Lengthened.gluing_in, Lengthened.lengths_by, Cells.IsCellOf}
use Rattle.{def_layout.specs.Gluings.south, qm_stitch.proofs.Grids.cell_read}
use Rattle.qm_stitch.proofs.face.cell_of.Goals as goal

pub overflow_sub-cell : goal.overflow_sub-cell
overflow_sub-cell c = (cell_read c.args.numbered.now.numbers c.requires.face c.deref.ensures.value
    c.spot_in-patch.ensures.run c.index.ensures).0

-- What is read of the cell.
read : (c : goal.After-size_at-wide) → (0 < c.size_at-wide.result)
    × IsCellOf (gluing_in c.args.numbered.now) (lengths_by c.args.numbered.now) c.args.f (record {
      patch = c.spot_in-patch.result;
      i = (c.args.f - c.index.result.now) % c.size_at-wide.result;
      j = (c.args.f - c.index.result.now) / c.size_at-wide.result;
    })
read c = (cell_read c.args.numbered.now.numbers c.requires.face c.deref.ensures.value c.spot_in-patch.ensures.run
    c.index.ensures).1 c.size_at-wide.result (c.size_at-wide.ensures south refl)

pub nonzero_rem-result : goal.nonzero_rem-result
nonzero_rem-result c = (read c).0

pub nonzero_div-result : goal.nonzero_div-result
nonzero_div-result c = (read c).0

pub returns : goal.returns
returns c = (read c).1
