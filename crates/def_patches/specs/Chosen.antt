-- The cut of a mesh that is chosen, beside marked edges or without any.
use Rattle.std.specs.Prelude.{◌≡◌, Bool, false, List, Option, Some, None, replicate, ⊤}
use Rattle.def_mesh.specs.Darts.{darts}
use Rattle.def_mesh.specs.Faces.{Faces}
use Rattle.def_cut.specs.Traced.{traced_marks}
use Rattle.def_layout.specs.FaceLayouts.{IsCutLayout}
use Rattle.def_layout.specs.Layouts.{Layout}
use Rattle.def_feature.specs.Conforming.{IsConforming}
use Rattle.def_feature.specs.Marked.{marked_cut}
use Rattle.def_feature.specs.Marks.{AreMarks}
use Rattle.def_merge.specs.Beside.{may_beside}
use Rattle.def_merge.specs.Merged.{IsMergedBy, IsMergedCut}
use Rattle.def_patches.specs.declared.Patches.{Patches}
use Rattle.def_patches.specs.declared.Patches.TheVariants.{Traced, Merged, Conforming}

-- Marked edges that are kept, or none.
abbrev pub AreKeptMarks : (faces : Faces) (kept : Option (List Bool)) → Type 0
AreKeptMarks faces None = ⊤
AreKeptMarks faces (Some marks) = AreMarks faces marks

-- The cut that keeps no marks: the motorcycle graph, its merged cut, or the conforming cut.
abbrev pub IsPlainCut : (faces : Faces) (patches : Patches) (cut : List Bool) → Type 0
IsPlainCut faces Traced cut = cut ≡ traced_marks faces
IsPlainCut faces Merged cut = IsMergedCut faces (traced_marks faces) cut
IsPlainCut faces Conforming cut = IsConforming faces (replicate (darts faces) false) cut

-- The cut that keeps these marks: the graph that is traced beside them, its cut that is merged beside them, or the
-- conforming cut beside them.
abbrev pub IsKeepingCut : (faces : Faces) (marks : List Bool) (patches : Patches) (cut : List Bool) → Type 0
IsKeepingCut faces marks Traced cut = cut ≡ marked_cut faces marks
IsKeepingCut faces marks Merged cut = IsMergedBy faces (may_beside faces marks) (marked_cut faces marks) cut
IsKeepingCut faces marks Conforming cut = IsConforming faces marks cut

-- The cut that is chosen.
abbrev pub IsChosenCut : (faces : Faces) (kept : Option (List Bool)) (patches : Patches) (cut : List Bool) → Type 0
IsChosenCut faces None patches cut = IsPlainCut faces patches cut
IsChosenCut faces (Some marks) patches cut = IsKeepingCut faces marks patches cut

-- The layout of the cut that is chosen.
abbrev pub IsChosenLayout : (faces : Faces) (kept : Option (List Bool)) (patches : Patches) (layout : Layout) → Type 0
IsChosenLayout faces kept patches layout =
    (cut : List Bool) × IsChosenCut faces kept patches cut × IsCutLayout faces cut layout
