-- What `graph` means.
use Rattle.std.specs.Prelude.{◌≡◌, List}
use Rattle.def_io.specs.Bytes.{Bytes}
use Rattle.def_mesh.specs.Components.{start_darts}
use Rattle.def_mesh.specs.Faces.{Faces}
use Rattle.def_cut.specs.Traced.{last_state, traced_marks, AreRiders}
use Rattle.def_cut.specs.declared.graph.Rider.{Rider}
use Rattle.def_layout.specs.FaceLayouts.{IsCutLayout}
use Rattle.def_layout.specs.Layouts.{Layout}
use Rattle.def_report.specs.GraphText.{graph_text}
use Rattle.def_text.specs.FaceSet.{FaceSet}
use Rattle.def_run.specs.Mesh.{IsMeshText, IsNoMesh}
use Rattle.def_run.specs.declared.answer.Answer.{Answer}

-- The text of these faces with the riders that trace their graph, and the layout that the graph cuts.
pub record IsGraphText (faces : Faces) (text : Bytes) : Type 0 where
  pub riders : List Rider
  pub rode : AreRiders (last_state faces).riders (start_darts faces) riders
  pub layout : Layout
  pub laid : IsCutLayout faces (traced_marks faces) layout
  pub said : text ≡ graph_text faces riders layout

-- For these bytes it writes this text: that of their mesh.
pub record WritesGraph (bytes text : Bytes) : Type 0 where
  pub soup : FaceSet
  pub mesh : IsMeshText bytes soup
  pub traced : IsGraphText soup.faces text

-- It refuses these bytes with this answer: they have no mesh.
abbrev pub RefusesToTrace : (bytes : Bytes) (answer : Answer) → Type 0
RefusesToTrace bytes answer = IsNoMesh bytes answer
