use Rattle.std.proofs.Common.{rules, ◌≡◌, ℕ, ◌-◌, map, refl, arith}
use Rattle.def_layout.specs.{Gluings.Way, Gluings.south, Gluings.east, Gluings.north, Gluings.west}
use Rattle.def_layout.specs.{Arcs.path, Borders.border_dart, Borders.side_size}
use Rattle.{def_cut.specs.Grids.rectangle, def_mesh.specs.HalfEdges.half_edges, qm_tmesh.specs.Four.HasSide}
use Rattle.qm_tmesh.proofs.Built.{rows, south_west, south_east, north_east, north_west}
use Rattle.qm_tmesh.proofs.sides.four_sides.Goals.{After-row_known-5-1}
use Rattle.qm_tmesh.proofs.sides.four_sides.Goals as goal

pub next-south_east-requires : goal.next-south_east-requires
next-south_east-requires c = search (rules, south_east c.requires.1 c.index.ensures)

pub next-requires : goal.next-requires
next-requires c =
    let p = c.args.patch.now in
    let g = c.requires.1.placed.grid in
    let e = north_east c.requires.1 c.index-2.ensures (omega (arith, c.len.ensures, p.cells.ok.0)) in
    omega (arith, e, g.low (p.w - 1 - 0) (p.h - 1) (omega (arith, g.wide)) (omega (arith, g.tall)))

pub overflow_sub-len-2 : goal.overflow_sub-len-2
overflow_sub-len-2 c = omega (arith, rows c.requires.1, c.len-2.ensures, c.args.patch.now.cells.ok.0)

pub prev-north_west-requires : goal.prev-north_west-requires
prev-north_west-requires c =
    let p = c.args.patch.now in
    let g = c.requires.1.placed.grid in
    let e = north_west c.requires.1 c.index-3.ensures (omega (arith, c.len-2.ensures, p.cells.ok.0)) in
    omega (arith, e, g.low 0 (p.h - 1 - 0) g.wide (omega (arith, g.tall)))

-- Where the sides begin, as it was found.
abbrev begin : (c : After-row_known-5-1) → Way → ℕ
begin c south = c.index-4.result.now
begin c east = c.next-south_east.result
begin c north = c.next-north_east.result
begin c west = c.prev-north_west.result

begins : (c : After-row_known-5-1) (way : Way) → begin c way ≡ border_dart (half_edges c.args.mesh.now)
    (rectangle c.args.patch.now) way 0
begins c south = south_west c.requires.1 c.index-4.ensures
begins c east = cc (south_east c.requires.1 c.index.ensures)
begins c north = cc (north_east c.requires.1 c.index-2.ensures (omega (arith, c.args.patch.now.cells.ok.0)))
begins c west = cc (north_west c.requires.1 c.index-3.ensures (omega (arith, c.args.patch.now.cells.ok.0)))

side : (c : After-row_known-5-1) (way : Way) → HasSide c.args.mesh.now (map path c.args.runs.now.arcs.items)
    c.args.runs.now.uses.items (begin c way) (side_size (rectangle c.args.patch.now) way)
side c way = (c.requires.0, rectangle c.args.patch.now, c.requires.1, way, begins c way, refl)

pub side_from-requires : goal.side_from-requires
side_from-requires c = side (goal.at.side_from-requires c).After-row_known-5-1 south

pub side_from-requires-2 : goal.side_from-requires-2
side_from-requires-2 c = side (goal.at.side_from-requires-2 c).After-row_known-5-1 east

pub side_from-requires-3 : goal.side_from-requires-3
side_from-requires-3 c = side (goal.at.side_from-requires-3 c).After-row_known-5-1 north

pub side_from-requires-4 : goal.side_from-requires-4
side_from-requires-4 c = side (goal.at.side_from-requires-4 c).After-row_known-5-1 west

pub returns : goal.returns
returns c =
    let at = (goal.at.returns c).After-row_known-5-1 in
    record {
      count = refl;
      each = elim [
        | south ↦ rw (begins at south) at c.in_ok-south.ensures
        | east ↦ rw (begins at east) at c.in_ok-east.ensures
        | north ↦ rw (begins at north) at c.in_ok-north.ensures
        | west ↦ rw (begins at west) at c.in_ok-west.ensures
      ];
    }
