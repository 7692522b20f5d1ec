-- The laws of chosen cuts.
use Rattle.std.specs.Prelude.{◌≡◌, ◌↔◌, ℕ, ◌<◌, Bool, false, List, length, Option, Some, None}
use Rattle.def_mesh.specs.Faces.{Faces}
use Rattle.def_mesh.specs.HalfEdges.{half_edges}
use Rattle.def_mesh.specs.Manifold.{IsManifold}
use Rattle.def_cut.specs.FullCut.{is_on, IsFullCut}
use Rattle.def_cut.specs.Steps.{easts}
use Rattle.def_layout.specs.Arcs.{IsRun}
use Rattle.def_layout.specs.Gluings.{Way}
use Rattle.def_layout.specs.Nodes.{is_node}
use Rattle.def_layout.specs.Layouts.{gluing_of, Layout}
use Rattle.def_feature.specs.Beside.{IsCutBeside}
use Rattle.def_feature.specs.Marks.{AreMarks}
use Rattle.def_patches.specs.Chosen.{AreKeptMarks, IsChosenCut, IsChosenLayout}
use Rattle.def_patches.specs.declared.Patches.{Patches}
use Rattle.def_patches.specs.declared.Patches.TheVariants.{Conforming}

-- There is one chosen cut and only one.
pub record IsOneCut (faces : Faces) (kept : Option (List Bool)) (patches : Patches) : Type 0 where
  pub cut : List Bool
  pub chosen : IsChosenCut faces kept patches cut
  pub only : (other : List Bool) → IsChosenCut faces kept patches other → other ≡ cut

abbrev pub OneCutLaw : Type 0
OneCutLaw = (faces : Faces) (kept : Option (List Bool)) (patches : Patches) → IsManifold faces
    → AreKeptMarks faces kept → IsOneCut faces kept patches

-- It is a full cut.
abbrev pub ChosenCutLaw : Type 0
ChosenCutLaw = (faces : Faces) (kept : Option (List Bool)) (patches : Patches) (cut : List Bool) → IsManifold faces
    → AreKeptMarks faces kept → IsChosenCut faces kept patches cut → IsFullCut faces cut

-- It has each marked edge that is kept, and a corner where marked lines break.
abbrev pub LinesLaw : Type 0
LinesLaw = (faces : Faces) (marks : List Bool) (patches : Patches) (cut : List Bool) → IsManifold faces
    → AreMarks faces marks → IsChosenCut faces (Some marks) patches cut → IsCutBeside faces marks cut

-- Each of its arcs is marked in all its edges or in none.
abbrev pub LineArcLaw : Type 0
LineArcLaw = (faces : Faces) (marks : List Bool) (patches : Patches) (cut : List Bool) → IsManifold faces
    → AreMarks faces marks → IsChosenCut faces (Some marks) patches cut
    → (s n : ℕ) → IsRun (half_edges faces) (is_on cut) (is_node faces cut) s n
    → (k : ℕ) → k < n → is_on marks (easts (half_edges faces) s k) ≡ is_on marks s

-- Where no edge is marked it is the cut without marks.
abbrev pub NoMarksLaw : Type 0
NoMarksLaw = (faces : Faces) (marks : List Bool) (patches : Patches) (cut : List Bool) → IsManifold faces
    → AreMarks faces marks → ((d : ℕ) → is_on marks d ≡ false)
    → IsChosenCut faces (Some marks) patches cut ↔ IsChosenCut faces None patches cut

-- Each side of each patch of a conforming cut is one arc.
abbrev pub OneArcLaw : Type 0
OneArcLaw = (faces : Faces) (kept : Option (List Bool)) (layout : Layout) → IsManifold faces → AreKeptMarks faces kept
    → IsChosenLayout faces kept Conforming layout → (patch : ℕ) (side : Way) → patch < length layout.patches
    → (gluing_of layout).many patch side ≡ 1
