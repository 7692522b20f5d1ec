-- A set of edges that cuts a mesh, told by a test on darts that is equal at twins.
use Rattle.std.specs.Prelude.{◌≡◌, ◌≢◌, ◌⊎◌, ℕ, zero, suc, ◌<◌, Bool, true, false, Some, None}
use Rattle.def_mesh.specs.HalfEdges.{HalfEdges}

-- Whether the edge of a dart is in the set.
abbrev pub Cut : Type 0
Cut = ℕ → Bool

-- Four faces go round the vertex that d leaves: four turns past one face lead back, and opposite darts differ.
pub record IsCross (mesh : HalfEdges) (d a b c : ℕ) : Type 0 where
  pub first : mesh.twin (mesh.prev d) ≡ Some a
  pub second : mesh.twin (mesh.prev a) ≡ Some b
  pub third : mesh.twin (mesh.prev b) ≡ Some c
  pub last : mesh.twin (mesh.prev c) ≡ Some d
  pub apart : d ≢ b

-- The vertex that d leaves is regular and inner.
abbrev pub HasCross : (mesh : HalfEdges) (d : ℕ) → Type 0
HasCross mesh d = (a : ℕ) × (b : ℕ) × (c : ℕ) × IsCross mesh d a b c

-- No edge at vertex v is cut.
abbrev pub IsUncut : (mesh : HalfEdges) (cut : Cut) (v : ℕ) → Type 0
IsUncut mesh cut v = (d : ℕ) → d < mesh.count → mesh.from d ≡ v → (cut d ≡ false) × (cut (mesh.prev d) ≡ false)

-- n steps lead from d to e, each round a face or over an edge that is not cut: the faces of d and e are in one class.
abbrev pub Links : (mesh : HalfEdges) (cut : Cut) (d e n : ℕ) → Type 0
Links mesh cut d e zero = d ≡ e
Links mesh cut d e (suc n) =
    (c : ℕ) × Links mesh cut d c n × ((e ≡ mesh.next c) ⊎ ((cut c ≡ false) × (mesh.twin c ≡ Some e)))

-- Dart d and the one before it are cut: a class of faces has a corner there.
abbrev pub IsCorner : (mesh : HalfEdges) (cut : Cut) (d : ℕ) → Type 0
IsCorner mesh cut d = (d < mesh.count) × (cut d ≡ true) × (cut (mesh.prev d) ≡ true)

-- The cut goes on after dart d: along its face, or straight on.
abbrev pub GoesOn : (mesh : HalfEdges) (cut : Cut) (d : ℕ) → Type 0
GoesOn mesh cut d =
    (cut (mesh.next d) ≡ true) ⊎ ((e : ℕ) × (mesh.twin (mesh.next d) ≡ Some e) × (cut (mesh.next e) ≡ true))

-- A full cut of half edges.
pub record IsCut (mesh : HalfEdges) (cut : Cut) : Type 0 where
  pub alike : (d e : ℕ) → d < mesh.count → mesh.twin d ≡ Some e → cut e ≡ cut d
  pub boundary : (d : ℕ) → d < mesh.count → mesh.twin d ≡ None → cut d ≡ true
  pub gaps : (d : ℕ) → d < mesh.count → cut d ≡ true → GoesOn mesh cut d
  pub crossed : (d : ℕ) → d < mesh.count → IsUncut mesh cut (mesh.from d) → HasCross mesh d
  pub corner : (d : ℕ) → d < mesh.count → (e : ℕ) × (n : ℕ) × Links mesh cut d e n × IsCorner mesh cut e
