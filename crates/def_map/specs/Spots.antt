-- Where the points of a new mesh lie in the old one.
use Rattle.std.specs.Prelude.{ℕ, List, Option}
use Rattle.def_cut.specs.Grids.{cell_of, patch_at}
use Rattle.def_layout.specs.Arcs.{dart_at, long_at}
use Rattle.def_layout.specs.Lengths.{Lengths, wide, high}
use Rattle.def_layout.specs.Layouts.{Layout, gluing_of, vertex_at}
use Rattle.def_written.specs.Places.{cell_at, parameter_u, parameter_v, rest_at, ArcSpacing}
use Rattle.def_written.specs.Points.{Point, node, along, inside}
use Rattle.def_remesh.specs.NewPoints.{point_at}
use Rattle.def_remesh.specs.Spaced.{spacing_by}
use Rattle.def_map.specs.declared.spot.EdgeSpot.{EdgeSpot}
use Rattle.def_map.specs.declared.spot.FaceSpot.{FaceSpot}
use Rattle.def_map.specs.declared.spot.Spot.{Spot}
use Rattle.def_map.specs.declared.spot.Spot.TheVariants.{AtVertex, InFace, OnEdge}

-- Place k of an arc: on which of its darts, and how far along that.
abbrev pub edge_spot : (layout : Layout) (spacing : ArcSpacing) (arc k : ℕ) → EdgeSpot
edge_spot layout spacing arc k =
    let step = spacing.step arc k in
    record { dart = dart_at layout.arcs arc step.edge; some = step.some; parts = step.parts }

-- Grid point (i, j) of a patch: in which of its faces, and where there.
abbrev pub face_spot : (layout : Layout) (new : Lengths) (spacing : ArcSpacing) (patch i j : ℕ) → FaceSpot
face_spot layout new spacing patch i j =
    let gluing = gluing_of layout in
    let old = long_at layout.arcs in
    let u = parameter_u gluing old new spacing patch i j in
    let v = parameter_v gluing old new spacing patch i j in record {
      dart = cell_of (patch_at layout.patches patch) (cell_at (wide gluing old patch) u)
          (cell_at (high gluing old patch) v);
      s = rest_at (wide gluing old patch) u;
      t = rest_at (high gluing old patch) v;
    }

-- Where a point lies.
abbrev pub spot_of : (layout : Layout) (new : Lengths) (spacing : ArcSpacing) (point : Point) → Spot
spot_of layout new spacing (node n) = AtVertex (vertex_at layout n)
spot_of layout new spacing (along a k) = OnEdge (edge_spot layout spacing a k)
spot_of layout new spacing (inside p i j) = InFace (face_spot layout new spacing p i j)

-- Where the new vertex v lies.
abbrev pub spot_at : (layout : Layout) (shares : Option (List ℕ)) (new : Lengths) (v : ℕ) → Spot
spot_at layout shares new v = spot_of layout new (spacing_by layout shares new) (point_at (gluing_of layout) new v)
