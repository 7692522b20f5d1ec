-- What the traced graph is made of, told without time: trails that lead straight on from the start darts.
use Rattle.std.specs.Prelude.{◌≡◌, ◌⊎◌, ℕ, zero, suc, ◌<◌, Bool, true, Some, None}
use Rattle.def_mesh.specs.HalfEdges.{HalfEdges}
use Rattle.def_cut.specs.Cuts.{HasCross}

-- Dart e leads straight on from the end of d.
abbrev pub IsStraight : (mesh : HalfEdges) (d e : ℕ) → Type 0
IsStraight mesh d e = (t : ℕ) × (mesh.twin (mesh.next d) ≡ Some t) × (e ≡ mesh.next t)

-- k cut darts lead from a start dart straight on over regular inner vertices to the place where d is next.
abbrev pub Trail : (mesh : HalfEdges) (start cut : ℕ → Bool) (d k : ℕ) → Type 0
Trail mesh start cut d zero = start d ≡ true
Trail mesh start cut d (suc k) =
    (c : ℕ) × Trail mesh start cut c k × (c < mesh.count) × (cut c ≡ true) × IsStraight mesh c d × HasCross mesh d

-- A trail leads along d or its twin.
abbrev pub IsTracked : (mesh : HalfEdges) (start cut : ℕ → Bool) (d : ℕ) → Type 0
IsTracked mesh start cut d =
    (k : ℕ) × (Trail mesh start cut d k ⊎ ((t : ℕ) × (mesh.twin d ≡ Some t) × Trail mesh start cut t k))

-- n steps lead from d to e, each round a face or over an edge: their faces are in one component.
abbrev pub Joins : (mesh : HalfEdges) (d e n : ℕ) → Type 0
Joins mesh d e zero = d ≡ e
Joins mesh d e (suc n) = (c : ℕ) × Joins mesh d c n × ((e ≡ mesh.next c) ⊎ (mesh.twin c ≡ Some e))

-- Dart e is a start, or lies at a vertex with one face.
abbrev pub IsSource : (mesh : HalfEdges) (start : ℕ → Bool) (e : ℕ) → Type 0
IsSource mesh start e = (start e ≡ true) ⊎ ((mesh.twin e ≡ None) × (mesh.twin (mesh.prev e) ≡ None))

-- Each component has a source.
abbrev pub HasSources : (mesh : HalfEdges) (start : ℕ → Bool) → Type 0
HasSources mesh start =
    (d : ℕ) → d < mesh.count → (e : ℕ) × (n : ℕ) × Joins mesh d e n × IsSource mesh start e

-- The cut is made of trails and of the boundary. Where a trail starts, it has the start, the dart before it, and the
-- dart after its twin.
pub record IsTraced (mesh : HalfEdges) (start cut : ℕ → Bool) : Type 0 where
  pub alike : (d t : ℕ) → d < mesh.count → mesh.twin d ≡ Some t → cut t ≡ cut d
  pub boundary : (d : ℕ) → d < mesh.count → mesh.twin d ≡ None → cut d ≡ true
  pub started : (d : ℕ) → d < mesh.count → start d ≡ true → cut d ≡ true
  pub before : (d : ℕ) → d < mesh.count → start d ≡ true → cut (mesh.prev d) ≡ true
  pub beside : (d t : ℕ) → d < mesh.count → start d ≡ true → mesh.twin d ≡ Some t → cut (mesh.next t) ≡ true
  pub tracked : (d t : ℕ) → d < mesh.count → mesh.twin d ≡ Some t → cut d ≡ true → IsTracked mesh start cut d
