-- The laws of merging.
use Rattle.std.specs.Prelude.{◌≡◌, ◌⊎◌, ℕ, suc, Bool, List, length}
use Rattle.def_mesh.specs.Faces.{Faces}
use Rattle.def_mesh.specs.HalfEdges.{HalfEdges, IsQuadManifold, half_edges}
use Rattle.def_mesh.specs.Manifold.{IsManifold}
use Rattle.def_cut.specs.Cuts.{Cut, IsCut}
use Rattle.def_cut.specs.FullCut.{IsFullCut, is_on}
use Rattle.def_cut.specs.Grids.{patch_at, IsPartition, Rectangle}
use Rattle.def_layout.specs.Arcs.{long_at}
use Rattle.def_layout.specs.Borders.{border_dart}
use Rattle.def_layout.specs.FaceLayouts.{IsCutLayout}
use Rattle.def_layout.specs.Gluings.{Slot, use_of}
use Rattle.def_layout.specs.Layouts.{gluing_of, Layout}
use Rattle.def_merge.specs.Joins.{IsJoinable, IsOnArc, IsWithout}
use Rattle.def_merge.specs.Merged.{IsMergedBy, MayLeave}
use Rattle.def_merge.specs.Layouts.{IsJoinableAt}

-- Without a joinable arc a full cut is a full cut.
abbrev pub JoinLaw : Type 0
JoinLaw = (mesh : HalfEdges) (cut rest : Cut) (s t n : ℕ) → IsQuadManifold mesh → IsCut mesh cut
    → IsJoinable mesh cut s t n → IsWithout mesh cut rest s t n → IsCut mesh rest

-- It has one patch less.
abbrev pub FewerLaw : Type 0
FewerLaw = (mesh : HalfEdges) (cut rest : Cut) (face_of : ℕ → ℕ) (s t n : ℕ) (ps qs : List Rectangle)
    → IsQuadManifold mesh → IsCut mesh cut → IsJoinable mesh cut s t n → IsWithout mesh cut rest s t n
    → IsPartition mesh cut face_of ps → IsPartition mesh rest face_of qs → length ps ≡ suc (length qs)

-- What is joinable then was joinable before, or goes on over one of the two ends.
abbrev pub GrownLaw : Type 0
GrownLaw = (mesh : HalfEdges) (cut rest : Cut) (s t n r u m : ℕ) → IsQuadManifold mesh → IsCut mesh cut
    → IsJoinable mesh cut s t n → IsWithout mesh cut rest s t n → IsJoinable mesh rest r u m
    → IsJoinable mesh cut r u m ⊎ (IsOnArc mesh r u m (mesh.prev s) ⊎ IsOnArc mesh r u m (mesh.prev t))

-- Merging leaves at most one cut of a full cut, which is a full cut.
abbrev pub OneMergedLaw : Type 0
OneMergedLaw = (faces : Faces) (may : MayLeave) (marks rest other : List Bool) → IsManifold faces
    → IsFullCut faces marks → IsMergedBy faces may marks rest → IsMergedBy faces may marks other
    → (rest ≡ other) × IsFullCut faces rest

-- And it comes to an end.
abbrev pub MergedLaw : Type 0
MergedLaw = (faces : Faces) (may : MayLeave) (marks : List Bool) → IsManifold faces → IsFullCut faces marks
    → (rest : List Bool) × IsMergedBy faces may marks rest

-- What is joinable in a layout is joinable in its cut, at the sides where it lies.
abbrev pub JoinableLaw : Type 0
JoinableLaw = (faces : Faces) (marks : List Bool) (layout : Layout) → IsManifold faces → IsFullCut faces marks
    → IsCutLayout faces marks layout → (one other : Slot) → IsJoinableAt (gluing_of layout) one other
    → IsJoinable (half_edges faces) (is_on marks)
    (border_dart (half_edges faces) (patch_at layout.patches one.patch) one.side 0)
    (border_dart (half_edges faces) (patch_at layout.patches other.patch) other.side 0)
    (long_at layout.arcs (use_of (gluing_of layout) one).arc)
