use Rattle.std.proofs.Common.{rules, arith}
use Rattle.{std.proofs.lemmas.List.length-map, def_cut.specs.Grids.rectangle}
use Rattle.qm_place.proofs.Entries.{cell_low, cell_read, on_grid, patch_read}
use Rattle.qm_place.proofs.placed.Placed.home.Goals as goal

pub overflow_add-j-2 : goal.overflow_add-j-2
overflow_add-j-2 c =
    let many = length-map c.args.self.now.t.now.patches.items rectangle in
    omega (arith, c.args.self.now.placed.low c.args.patch (omega (arith, c.requires.patch, many)))

pub grid_point-south_west-requires-clause-grid : goal.grid_point-south_west-requires-clause-grid
grid_point-south_west-requires-clause-grid c = search (rules, on_grid)

pub grid_point-south_east-requires-clause-grid : goal.grid_point-south_east-requires-clause-grid
grid_point-south_east-requires-clause-grid c = on_grid c.args.self.now.t.now c.args.self.now.placed c.requires.patch
    c.requires.column c.requires.row (omega arith) (omega arith)

pub grid_point-north_east-requires-clause-grid : goal.grid_point-north_east-requires-clause-grid
grid_point-north_east-requires-clause-grid c = search (rules, on_grid)

pub grid_point-north_west-requires-clause-grid : goal.grid_point-north_west-requires-clause-grid
grid_point-north_west-requires-clause-grid c = on_grid c.args.self.now.t.now c.args.self.now.placed c.requires.patch
    c.requires.column c.requires.row (omega arith) (omega arith)

pub cell_at-a-requires : goal.cell_at-a-requires
cell_at-a-requires c =
    (patch_read c.args.self.now.t.now c.args.self.now.placed c.requires.patch c.index-old.ensures).some

pub cell_at-b-requires : goal.cell_at-b-requires
cell_at-b-requires c =
    (patch_read c.args.self.now.t.now c.args.self.now.placed c.requires.patch c.index-old.ensures).tall

pub index-requires : goal.index-requires
index-requires c =
    let old = patch_read c.args.self.now.t.now c.args.self.now.placed c.requires.patch c.index-old.ensures in
    omega (arith, cell_low old c.cell_at-a.ensures.low c.cell_at-b.ensures.low, c.index-old.result.now.cells.ok.0)

pub returns : goal.returns
returns c =
    let old = patch_read c.args.self.now.t.now c.args.self.now.placed c.requires.patch c.index-old.ensures in rw (
      cell_read old c.cell_at-a.ensures.low c.cell_at-b.ensures.low c.index.ensures,
      c.seen_from.ensures,
      c.seen_from-2.ensures,
      c.seen_from-3.ensures,
      c.seen_from-4.ensures,
      c.cell_at-a.ensures.value,
      c.cell_at-b.ensures.value,
      c.mean_of-u.ensures,
      c.mean_of-v.ensures,
      old.wide,
      old.high,
      c.grid_point-south_west.ensures.value,
      c.grid_point-south_east.ensures.value,
      c.grid_point-north_east.ensures.value,
      c.grid_point-north_west.ensures.value,
    )
