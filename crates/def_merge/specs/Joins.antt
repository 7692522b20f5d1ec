-- Arcs that join two patches along a whole side of each.
use Rattle.std.specs.Prelude.{◌≡◌, ◌⊎◌, ℕ, suc, Bool, ◌+◌, ◌<◌, ◌≤◌, true, false, Some}
use Rattle.def_mesh.specs.HalfEdges.{HalfEdges}
use Rattle.def_cut.specs.Cuts.{Cut, Links, IsCorner}
use Rattle.def_cut.specs.Steps.{easts}

-- The n darts straight on from s are a whole side of a patch: s leaves one of its corners, the last arrives at the
-- next.
pub record IsWholeSide (mesh : HalfEdges) (cut : Cut) (s n : ℕ) : Type 0 where
  pub some : 0 < n
  pub corner : IsCorner mesh cut s
  pub inside : (k : ℕ) → suc k < n → cut (mesh.next (easts mesh s k)) ≡ false
  pub ends : (k : ℕ) → suc k ≡ n → cut (mesh.next (easts mesh s k)) ≡ true

-- The faces of darts d and e lie in one patch.
abbrev pub AreInOne : (mesh : HalfEdges) (cut : Cut) (d e : ℕ) → Type 0
AreInOne mesh cut d e = (n : ℕ) × Links mesh cut d e n

-- The whole side from s and the whole side from t are one arc.
pub record AreGlued (mesh : HalfEdges) (cut : Cut) (s t n : ℕ) : Type 0 where
  pub near : IsWholeSide mesh cut s n
  pub far : IsWholeSide mesh cut t n
  pub across : (k j : ℕ) → k + suc j ≡ n → mesh.twin (easts mesh s k) ≡ Some (easts mesh t j)

-- It is joinable: its patches differ.
pub record IsJoinable (mesh : HalfEdges) (cut : Cut) (s t n : ℕ) : Type 0 where
  pub glued : AreGlued mesh cut s t n
  pub apart : ¬ AreInOne mesh cut s t

-- Dart d is one of its darts, in either direction.
abbrev pub IsOnArc : (mesh : HalfEdges) (s t n d : ℕ) → Type 0
IsOnArc mesh s t n d = (k : ℕ) × (k < n) × ((d ≡ easts mesh s k) ⊎ (d ≡ easts mesh t k))

-- The name of the arc: the least of its darts.
pub record IsNameOf (mesh : HalfEdges) (s t n name : ℕ) : Type 0 where
  pub on : IsOnArc mesh s t n name
  pub least : (d : ℕ) → IsOnArc mesh s t n d → name ≤ d

-- Which arcs may leave, told by the first darts of both sides and the length.
abbrev pub Leave : Type 0
Leave = (s t n : ℕ) → Bool

-- The first joinable arc that may leave, in order of names, which is the order of arcs.
pub record IsFirstJoinable (mesh : HalfEdges) (cut : Cut) (may : Leave) (s t n : ℕ) : Type 0 where
  pub joinable : IsJoinable mesh cut s t n
  pub free : may s t n ≡ true
  pub name : ℕ
  pub named : IsNameOf mesh s t n name
  pub first : (r u m d : ℕ) → IsJoinable mesh cut r u m → may r u m ≡ true → IsOnArc mesh r u m d → name ≤ d

-- The cut that is left when the arc is taken away.
pub record IsWithout (mesh : HalfEdges) (cut rest : Cut) (s t n : ℕ) : Type 0 where
  pub gone : (d : ℕ) → IsOnArc mesh s t n d → rest d ≡ false
  pub kept : (d : ℕ) → d < mesh.count → ¬ IsOnArc mesh s t n d → rest d ≡ cut d
