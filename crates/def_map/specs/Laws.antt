-- What is proved of where new vertices lie.
use Rattle.std.specs.Prelude.{◌≡◌, ℕ, ◌<◌, List, Option}
use Rattle.def_layout.specs.Arcs.{long_at}
use Rattle.def_layout.specs.Lengths.{Lengths, AreLengths}
use Rattle.def_layout.specs.Layouts.{Layout, gluing_of}
use Rattle.def_mesh.specs.Darts.{darts}
use Rattle.def_mesh.specs.Faces.{Faces}
use Rattle.def_mesh.specs.Vertices.{vertex_count}
use Rattle.def_remesh.specs.NewSoup.{spaced_place}
use Rattle.def_remesh.specs.Placings.{IsMeshLayout}
use Rattle.def_remesh.specs.Spaced.{spacing_by}
use Rattle.def_text.specs.Types.{Positions}
use Rattle.def_written.specs.Numbers.{vertices}
use Rattle.def_written.specs.Places.{ONE}
use Rattle.def_written.specs.Spacings.{IsSpacing}
use Rattle.def_map.specs.SpotPlaces.{spot_place}
use Rattle.def_map.specs.Spots.{spot_at}
use Rattle.def_map.specs.declared.spot.Spot.{Spot}
use Rattle.def_map.specs.declared.spot.Spot.TheVariants.{AtVertex, InFace, OnEdge}

-- A vertex of these faces, a place before the end of one of their darts, or one in a face, before its east side and its
-- north side.
abbrev pub IsSpot : (faces : Faces) (spot : Spot) → Type 0
IsSpot faces (AtVertex u) = u < vertex_count faces
IsSpot faces (OnEdge spot) = (spot.dart < darts faces) × (spot.some < spot.parts)
IsSpot faces (InFace spot) = (spot.dart < darts faces) × (spot.s < ONE) × (spot.t < ONE)

-- Each new vertex lies in the old mesh, and the place that is computed from where it lies is its place.
abbrev pub SpotLaw : Type 0
SpotLaw = (faces : Faces) (layout : Layout) (shares : Option (List ℕ)) (new : Lengths) → IsMeshLayout faces layout
    → AreLengths (gluing_of layout) new
    → IsSpacing (gluing_of layout) (long_at layout.arcs) new (spacing_by layout shares new)
    → (v : ℕ) → v < vertices (gluing_of layout) new
    → IsSpot faces (spot_at layout shares new v)
    × ((places : Positions)
    → spot_place faces places (spot_at layout shares new v) ≡ spaced_place faces layout places shares new v)
