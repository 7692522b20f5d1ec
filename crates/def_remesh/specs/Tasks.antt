-- What is asked of a mesh that is remeshed: its cut, the lengths that are wished for, and the frame of the text.
use Rattle.std.specs.Prelude.{ℕ, Bool, List, [], Option, None}
use Rattle.def_certtext.specs.HeadLine.{head_line}
use Rattle.def_certtext.specs.Risings.{third_if}
use Rattle.def_certtext.specs.declared.certs.Rising.{Rising}
use Rattle.def_cut.specs.Traced.{traced_marks}
use Rattle.def_flow.specs.declared.net.Settings.{Settings}
use Rattle.def_io.specs.Bytes.{Bytes}
use Rattle.def_layout.specs.Arcs.{long_at}
use Rattle.def_layout.specs.Lengths.{Lengths}
use Rattle.def_layout.specs.Layouts.{Layout}
use Rattle.def_mesh.specs.Faces.{Faces}

-- The lengths that are wished for the arcs of a layout, before they are scaled.
abbrev pub Wish : Type 0
Wish = (layout : Layout) → Lengths

-- The old lengths.
abbrev pub old_lengths : Wish
old_lengths layout = long_at layout.arcs

-- The floors of the arcs before any rises.
abbrev pub given_floors : (settings : Settings) → Lengths
given_floors settings arc = settings.floor

-- The cut of the mesh, the wished lengths with their settings, how floors rise, the shares of the darts by which new
-- points are spaced, the head line of the text, and the lines of the text between the new mesh and the certificates,
-- for a layout with its new lengths.
pub record Task : Type 0 where
  pub marks : List Bool
  pub wish : Wish
  pub settings : Settings
  pub rising : Rising
  pub shares : Option (List ℕ)
  pub head : Bytes
  pub between : (layout : Layout) (new : Lengths) → Bytes

-- A remesh of these faces over their motorcycle graph, with even spacing.
abbrev pub remesh_task : (settings : Settings) (auto : Bool) (faces : Faces) → Task
remesh_task settings auto faces = record {
  marks = traced_marks faces;
  wish = old_lengths;
  settings = settings;
  rising = third_if auto;
  shares = None;
  head = head_line settings auto;
  between = λ layout new. [];
}
