use Rattle.std.proofs.Common.{arith}
use Rattle.qm_place.proofs.Entries.{cell_low, cell_read, patch_read}
use Rattle.qm_place.proofs.spots.cell_spot.Goals as goal

pub index-requires : goal.index-requires
index-requires c =
    let old = patch_read c.args.placed.now.t.now c.args.placed.now.placed c.requires.patch c.index-old.ensures in
    omega (arith, cell_low old c.cell_at-a.ensures.low c.cell_at-b.ensures.low, c.index-old.result.now.cells.ok.0)

pub returns : goal.returns
returns c =
    let old = patch_read c.args.placed.now.t.now c.args.placed.now.placed c.requires.patch c.index-old.ensures in rw (
      cell_read old c.cell_at-a.ensures.low c.cell_at-b.ensures.low c.index.ensures,
      c.from.ensures,
      c.from-2.ensures,
      c.cell_at-a.ensures.value,
      c.cell_at-b.ensures.value,
      old.wide,
      old.high,
      c.grid_point-point.ensures.value,
    )
