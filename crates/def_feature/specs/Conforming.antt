-- The conforming cut: lines go straight on over inner regular vertices as far as they can, across all others.
use Rattle.std.specs.Prelude.{◌≡◌, ◌⊎◌, ◌↔◌, ℕ, zero, suc, ◌<◌, Bool, true, ◌||◌, List, length, Some, None}
use Rattle.def_mesh.specs.Faces.{Faces}
use Rattle.def_mesh.specs.Darts.{darts, twin_of}
use Rattle.def_mesh.specs.HalfEdges.{half_edges}
use Rattle.def_mesh.specs.Manifold.{IsManifold}
use Rattle.def_runs.specs.Runs.{follower}
use Rattle.def_cut.specs.Cuts.{IsCross}
use Rattle.def_cut.specs.FullCut.{is_on}
use Rattle.def_feature.specs.Beside.{IsCutBeside}
use Rattle.def_feature.specs.Marks.{AreMarks}
use Rattle.def_feature.specs.Marked.{is_origin}

-- Lines go on from d: lines of the graph that is traced beside marks begin along d, or it is marked.
abbrev pub is_source : (faces : Faces) (marks : List Bool) (d : ℕ) → Bool
is_source faces marks d = is_origin faces marks d || is_on marks d

-- n steps straight on over inner regular vertices lead from such a dart to d.
abbrev pub Line : (faces : Faces) (marks : List Bool) (d n : ℕ) → Type 0
Line faces marks d zero = is_source faces marks d ≡ true
Line faces marks d (suc n) = (c : ℕ) × Line faces marks c n × (c < darts faces) × (follower faces c ≡ Some d)

abbrev pub IsLed : (faces : Faces) (marks : List Bool) (d : ℕ) → Type 0
IsLed faces marks d = (n : ℕ) × Line faces marks d n

-- The edge of d lies at the boundary or on a line, in either direction.
abbrev pub IsLined : (faces : Faces) (marks : List Bool) (d : ℕ) → Type 0
IsLined faces marks d = (twin_of faces d ≡ None)
    ⊎ (IsLed faces marks d ⊎ ((t : ℕ) × (twin_of faces d ≡ Some t) × IsLed faces marks t))

-- The conforming cut, one mark for each dart.
pub record IsConforming (faces : Faces) (marks cut : List Bool) : Type 0 where
  pub long : length cut ≡ darts faces
  pub lined : (d : ℕ) → d < darts faces → (is_on cut d ≡ true) ↔ IsLined faces marks d

-- It is a full cut that keeps marked lines.
abbrev pub ConformingLaw : Type 0
ConformingLaw = (faces : Faces) (marks cut : List Bool) → IsManifold faces → AreMarks faces marks
    → IsConforming faces marks cut → IsCutBeside faces marks cut

-- At an inner regular vertex it goes straight on.
abbrev pub StraightLaw : Type 0
StraightLaw = (faces : Faces) (marks cut : List Bool) → IsManifold faces → AreMarks faces marks
    → IsConforming faces marks cut → (x a b c : ℕ) → x < darts faces → IsCross (half_edges faces) x a b c
    → is_on cut x ≡ true → is_on cut b ≡ true
