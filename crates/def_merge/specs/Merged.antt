-- The merged cut: the first joinable arc that may leave leaves, again and again, until none may.
use Rattle.std.specs.Prelude.{◌≡◌, ℕ, zero, suc, Bool, true, List, length}
use Rattle.def_mesh.specs.Faces.{Faces}
use Rattle.def_mesh.specs.HalfEdges.{half_edges}
use Rattle.def_cut.specs.FullCut.{is_on}
use Rattle.def_merge.specs.Joins.{IsJoinable, IsFirstJoinable, IsWithout, Leave}

-- Which arcs of a cut may leave it.
abbrev pub MayLeave : Type 0
MayLeave = (marks : List Bool) → Leave

-- All may.
abbrev pub all_may : MayLeave
all_may marks s t n = true

-- One arc is taken away, the first that is joinable and may leave.
pub record IsStep (faces : Faces) (may : MayLeave) (marks rest : List Bool) : Type 0 where
  pub near : ℕ
  pub far : ℕ
  pub size : ℕ
  pub first : IsFirstJoinable (half_edges faces) (is_on marks) (may marks) near far size
  pub long : length rest ≡ length marks
  pub without : IsWithout (half_edges faces) (is_on marks) (is_on rest) near far size

-- So many arcs are taken away, one after the other.
abbrev pub Steps : (faces : Faces) (may : MayLeave) (marks rest : List Bool) (steps : ℕ) → Type 0
Steps faces may marks rest zero = marks ≡ rest
Steps faces may marks rest (suc n) =
    (between : List Bool) × Steps faces may marks between n × IsStep faces may between rest

-- No arc is left to take away.
abbrev pub IsMerged : (faces : Faces) (may : MayLeave) (marks : List Bool) → Type 0
IsMerged faces may marks =
    (s t n : ℕ) → IsJoinable (half_edges faces) (is_on marks) s t n → ¬ (may marks s t n ≡ true)

-- What is left of a full cut then.
pub record IsMergedBy (faces : Faces) (may : MayLeave) (marks rest : List Bool) : Type 0 where
  pub steps : ℕ
  pub reached : Steps faces may marks rest steps
  pub merged : IsMerged faces may rest

-- The merged cut of a full cut: all joinable arcs may leave.
abbrev pub IsMergedCut : (faces : Faces) (marks rest : List Bool) → Type 0
IsMergedCut faces = IsMergedBy faces all_may
