-- New vertices lie in the old mesh, and have the places that are computed from there.
use Rattle.std.proofs.Common.{rules, subst, ◌≡◌, ℕ, ◌<◌, List, Option, refl, sym, arith}
use Rattle.def_cut.specs.Grids.{cell_of, patch_at}
use Rattle.def_layout.specs.{Lengths.Lengths, Lengths.wide, Lengths.high, Lengths.AreLengths, Arcs.long_at}
use Rattle.def_layout.specs.{Gluings.Gluing, Layouts.Layout, Layouts.gluing_of}
use Rattle.def_written.specs.Places.{blend, cell_at, on_the_way, parameter_u, parameter_v, rest_at, ArcSpacing}
use Rattle.def_written.specs.{Spacings.IsSpacing, Points.Point, Points.node, Points.along, Points.inside}
use Rattle.def_written.specs.{Points.IsPoint}
use Rattle.def_remesh.specs.{NewPoints.point_at, NewSoup.new_coordinate, Spaced.spacing_by}
use Rattle.def_map.specs.{SpotPlaces.coordinate_at, SpotPlaces.on_axes, SpotPlaces.spot_place, Laws.IsSpot}
use Rattle.def_map.specs.{Laws.SpotLaw, Spots.spot_of}
use Rattle.map_laws.proofs.{OldPoints.corners, OldPoints.ends, OldPoints.old_low, OldPoints.AreCorners, Cells.is_point}
use Rattle.map_laws.proofs.{Parameters.rest_less, Parameters.u_less, Parameters.v_less}
use Rattle.embedding_laws.proofs.Bounds.{laid_of, lengths_of}
use Rattle.written_laws.proofs.Rims.{wide_some, high_some}
use Rattle.{def_layoutnet.specs.MeshLayouts.IsSomeLayout, def_mesh.specs.Faces.Faces, def_text.specs.Types.Positions}

-- The spot of a point lies in the mesh, and the place that is computed from it is that of the point.
pub record IsSpotOf (faces : Faces) (layout : Layout) (shares : Option (List ℕ)) (new : Lengths) (point : Point) : Type
    0
  where
    pub within : IsSpot faces (spot_of layout new (spacing_by layout shares new) point)
    pub place : (places : Positions) → spot_place faces places (spot_of layout new (spacing_by layout shares new) point)
        ≡ on_axes (new_coordinate faces layout places shares new point)

module _ (layout : Layout) (is : IsSomeLayout layout) (shares : Option (List ℕ)) (new : Lengths)
    (len : AreLengths (gluing_of layout) new)
    (spaced : IsSpacing (gluing_of layout) (long_at layout.arcs) new (spacing_by layout shares new)) where
  abbrev l : Gluing
  l = gluing_of layout

  abbrev old : Lengths
  old = long_at layout.arcs

  abbrev spacing : ArcSpacing
  spacing = spacing_by layout shares new

  spot_is : (a : Point) → IsPoint l new a → IsSpotOf is.faces layout shares new a
  spot_is (node n) low = record { within = old_low layout is (node n) low; place = λ places. refl }
  spot_is (along arc k) low =
      let e = ends layout is arc _ low.0 (spaced.edges arc k low.0 low.2) in
      record {
        within = (e.low, spaced.parts arc k low.0 low.2);
        place = λ places t. on_axes (λ axis. on_the_way (coordinate_at places (sym e.first t) axis)
            (coordinate_at places (sym e.last t) axis) (spacing.step arc k).some (spacing.step arc k).parts);
      }
  spot_is (inside patch i j) inner =
      let w = wide l old patch in
      let h = high l old patch in
      let u = parameter_u l old new spacing patch i j in
      let v = parameter_v l old new spacing patch i j in
      let laid = laid_of layout is in
      let old_len = lengths_of layout is in
      let wide_pos : 0 < wide l old patch = wide_some l old laid.paved old_len patch inner.0 in
      let high_pos : 0 < high l old patch = high_some l old laid.paved old_len patch inner.0 in
      let e : AreCorners layout is patch (cell_at w u) (cell_at h v)
      (cell_of (patch_at layout.patches patch) (cell_at w u) (cell_at h v)) =
      corners layout is patch (cell_at w u) (cell_at h v) inner.0 (omega (arith, wide_pos)) (omega (arith, high_pos)) in
      record {
        within = search (rules, rest_less, u_less, v_less);
        place = λ places t. on_axes (λ axis. blend (rest_at w u) (rest_at h v)
            (coordinate_at places (sym e.south_west t) axis) (coordinate_at places (sym e.south_east t) axis)
            (coordinate_at places (sym e.north_west t) axis) (coordinate_at places (sym e.north_east t) axis));
      }

pub spot_law : SpotLaw
spot_law faces layout shares new (is, same) len spaced v low =
    let point = point_at (gluing_of layout) new v in
    let at = subst (λ (F : Faces). IsSpotOf F layout shares new (point_at (gluing_of layout) new v)) same
    (spot_is layout is shares new len spaced point (is_point (gluing_of layout) new v low)) in
    (at.within, at.place)
