-- What is proved of the meshes that a gluing gives.
use Rattle.std.specs.Prelude.{◌≡◌, ℕ, ◌*◌, ◌<◌, ◌≤◌, length, ℤ, ◌≤ℤ◌}
use Rattle.def_mesh.specs.Faces.{Faces, face_at}
use Rattle.def_mesh.specs.Manifold.{IsManifold}
use Rattle.def_mesh.specs.Vertices.{vertex_count, UsesEach}
use Rattle.def_mesh.specs.HalfEdges.{half_edges}
use Rattle.def_layout.specs.Gluings.{Gluing}
use Rattle.def_layout.specs.Surfaces.{HasWholeSides, IsSurface}
use Rattle.def_layout.specs.Fans.{HasFans}
use Rattle.def_layout.specs.Lengths.{Lengths, AreLengths}
use Rattle.def_layout.specs.Cells.{CellDart}
use Rattle.def_layout.specs.Embeddings.{IsEmbedding}
use Rattle.def_written.specs.Points.{Point, IsPoint}
use Rattle.def_written.specs.Numbers.{vertex_number, vertices}
use Rattle.def_written.specs.NewFaces.{new_faces}
use Rattle.def_written.specs.Edges.{IsUndoubled}
use Rattle.def_written.specs.Places.{Coordinate, even, ONE, place_of, ArcSpacing}
use Rattle.def_written.specs.Spacings.{IsSpacing, Shares, shared}
use Rattle.def_written.specs.Shape.{KeepsShape}

-- Each face has four corners.
abbrev pub AreQuads : (faces : Faces) → Type 0
AreQuads faces = (f : ℕ) → f < length faces → length (face_at faces f) ≡ 4

-- A gluing with its old lengths lies in a mesh of quads: node n is the vertex `vertex n`.
pub record LiesInMesh (faces : Faces) (gluing : Gluing) (old : Lengths) (vertex : ℕ → ℕ) : Type 0 where
  pub manifold : IsManifold faces
  pub quads : AreQuads faces
  pub used : UsesEach (vertex_count faces) faces
  pub paved : HasWholeSides gluing
  pub lengths : AreLengths gluing old
  pub cell : CellDart → ℕ
  pub arc_dart : ℕ → ℕ → ℕ
  pub sided : IsEmbedding (half_edges faces) gluing old cell vertex arc_dart

-- Such a gluing is that of a surface.
abbrev pub LaidLaw : Type 0
LaidLaw = (faces : Faces) (gluing : Gluing) (old : Lengths) (vertex : ℕ → ℕ) → LiesInMesh faces gluing old vertex
    → IsSurface gluing × HasFans gluing

-- Each number below that of the vertices is the number of one point.
pub record AreNumbered (gluing : Gluing) (lengths : Lengths) : Type 0 where
  pub low : (a : Point) → IsPoint gluing lengths a → vertex_number gluing lengths a < vertices gluing lengths
  pub same : (a b : Point) → IsPoint gluing lengths a → IsPoint gluing lengths b
      → vertex_number gluing lengths a ≡ vertex_number gluing lengths b → a ≡ b
  pub onto : (n : ℕ) → n < vertices gluing lengths
      → (a : Point) × IsPoint gluing lengths a × (vertex_number gluing lengths a ≡ n)

abbrev pub NumbersLaw : Type 0
NumbersLaw = (gluing : Gluing) (lengths : Lengths) → AreNumbered gluing lengths

-- Where no edge is doubled, the new faces are a manifold.
abbrev pub NewManifoldLaw : Type 0
NewManifoldLaw = (gluing : Gluing) (lengths : Lengths) → IsSurface gluing → HasFans gluing → AreLengths gluing lengths
    → IsUndoubled gluing lengths → IsManifold (new_faces gluing lengths)

-- They then have the shape of the mesh in which the gluing lies.
abbrev pub KeepsShapeLaw : Type 0
KeepsShapeLaw = (faces : Faces) (gluing : Gluing) (old : Lengths) (vertex : ℕ → ℕ) → LiesInMesh faces gluing old vertex
    → (new : Lengths) → AreLengths gluing new → IsUndoubled gluing new
    → KeepsShape faces (new_faces gluing new) gluing.nodes vertex

-- Lengths of at least 3 double no edge.
abbrev pub ThreeLaw : Type 0
ThreeLaw = (gluing : Gluing) (lengths : Lengths) → IsSurface gluing → AreLengths gluing lengths
    → ((arc : ℕ) → arc < gluing.arcs → 3 ≤ lengths arc) → IsUndoubled gluing lengths

-- Multiples of the old lengths are lengths, and double no edge.
abbrev pub MultipleLaw : Type 0
MultipleLaw = (faces : Faces) (gluing : Gluing) (old : Lengths) (vertex : ℕ → ℕ) → LiesInMesh faces gluing old vertex
    → (k : ℕ) → 0 < k → AreLengths gluing (λ a. k * old a) × IsUndoubled gluing (λ a. k * old a)

-- Equal parts of the old lengths are a spacing.
abbrev pub EvenSpacingLaw : Type 0
EvenSpacingLaw = (gluing : Gluing) (old new : Lengths) → AreLengths gluing old → AreLengths gluing new
    → IsSpacing gluing old new (even old new)

-- So are equal parts of shares, where no new edge is shorter than the unit of parameters.
abbrev pub SharedLaw : Type 0
SharedLaw = (gluing : Gluing) (old new : Lengths) (shares : Shares) → AreLengths gluing old → AreLengths gluing new
    → ((arc : ℕ) → arc < gluing.arcs → new arc ≤ ONE) → IsSpacing gluing old new (shared old new shares)

-- Each coordinate of a new point lies between the least and the greatest of the old ones.
abbrev pub BetweenLaw : Type 0
BetweenLaw = (gluing : Gluing) (old new : Lengths) (spacing : ArcSpacing) (at : Coordinate) (least greatest : ℤ)
    → IsSurface gluing → AreLengths gluing old → AreLengths gluing new → IsSpacing gluing old new spacing
    → ((a : Point) → IsPoint gluing old a → (least ≤ℤ at a) × (at a ≤ℤ greatest))
    → (a : Point) → IsPoint gluing new a
    → (least ≤ℤ place_of gluing old new spacing at a) × (place_of gluing old new spacing at a ≤ℤ greatest)
