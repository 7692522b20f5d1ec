-- Merging beside marked lines: an arc may leave where the cut that is left keeps them.
use Rattle.std.specs.Prelude.{◌≡◌, ◌≢◌, ◌↔◌, ℕ, ◌<◌, Bool, true, false, not, ◌&&◌, ◌||◌, ◌==◌, List, map, Some}
use Rattle.std.specs.List.{list_any, range_with_len}
use Rattle.def_mesh.specs.Faces.{Faces}
use Rattle.def_mesh.specs.Darts.{all_darts, from_of, prev_of, twin_of}
use Rattle.def_mesh.specs.HalfEdges.{HalfEdges, half_edges}
use Rattle.def_mesh.specs.Manifold.{IsManifold}
use Rattle.def_cut.specs.FullCut.{is_on}
use Rattle.def_cut.specs.Steps.{easts}
use Rattle.def_feature.specs.Beside.{IsCutBeside, keeps_lines}
use Rattle.def_feature.specs.Marks.{AreMarks, is_break}
use Rattle.def_merge.specs.Joins.{IsJoinable, Leave}
use Rattle.def_merge.specs.Merged.{IsMergedBy, MayLeave}

-- Whether d is a dart of an arc, in either direction.
abbrev pub is_on_arc : (mesh : HalfEdges) (s t n d : ℕ) → Bool
is_on_arc mesh s t n d = list_any (λ k. (d == easts mesh s k) || (d == easts mesh t k)) (range_with_len 0 n)

-- The cut that is left when an arc is taken away.
abbrev pub without : (faces : Faces) (cut : List Bool) (s t n : ℕ) → List Bool
without faces cut s t n = map (λ d. is_on cut d && not (is_on_arc (half_edges faces) s t n d)) (all_darts faces)

-- The arcs that may leave beside marked lines.
abbrev pub may_beside : (faces : Faces) (marks : List Bool) → MayLeave
may_beside faces marks cut s t n = keeps_lines faces marks (without faces cut s t n)

-- What is merged beside marked lines keeps them.
abbrev pub MergedBesideLaw : Type 0
MergedBesideLaw = (faces : Faces) (marks cut rest : List Bool) → IsManifold faces → IsCutBeside faces marks cut
    → IsMergedBy faces (may_beside faces marks) cut rest → IsCutBeside faces marks rest

-- An arc that may not leave a cut may not leave a part of it either.
abbrev pub HeldLaw : Type 0
HeldLaw = (faces : Faces) (marks cut rest : List Bool) (s t n : ℕ)
    → ((d : ℕ) → is_on rest d ≡ true → is_on cut d ≡ true)
    → may_beside faces marks rest s t n ≡ true → may_beside faces marks cut s t n ≡ true

-- Where marked lines break at the end s of an arc whose other side begins at t, the edge opposite to s is cut, and is
-- not the other end of the arc.
abbrev pub IsEndFree : (faces : Faces) (marks cut : List Bool) (s t : ℕ) → Type 0
IsEndFree faces marks cut s t = is_break faces marks (from_of faces s) ≡ true → (a b : ℕ)
    → twin_of faces (prev_of s) ≡ Some a → twin_of faces (prev_of a) ≡ Some b → (is_on cut b ≡ true) × (b ≢ t)

-- An arc that may leave, told at its darts and its ends.
pub record IsSpared (faces : Faces) (marks cut : List Bool) (s t n : ℕ) : Type 0 where
  pub unmarked : (k : ℕ) → k < n → is_on marks (easts (half_edges faces) s k) ≡ false
  pub near : IsEndFree faces marks cut s t
  pub far : IsEndFree faces marks cut t s

-- That is the same.
abbrev pub SparedLaw : Type 0
SparedLaw = (faces : Faces) (marks cut : List Bool) (s t n : ℕ) → IsManifold faces → AreMarks faces marks
    → IsCutBeside faces marks cut → IsJoinable (half_edges faces) (is_on cut) s t n
    → (may_beside faces marks cut s t n ≡ true) ↔ IsSpared faces marks cut s t n
