-- A remesh in the frame of its text, and the task that it finishes.
use Rattle.std.specs.Prelude.{◌≡◌, ◌∷◌, ◌++◌, []}
use Rattle.def_certtext.specs.CertLines.{certificates_of, used}
use Rattle.def_io.specs.Bytes.{Bytes}
use Rattle.def_io.specs.declared.TheConstants.{LINE_FEED}
use Rattle.def_layout.specs.FaceLayouts.{IsCutLayout}
use Rattle.def_layout.specs.Layouts.{Layout}
use Rattle.def_remesh.specs.Keeping.{IsKept}
use Rattle.def_remesh.specs.NewPoints.{lengths_in}
use Rattle.def_remesh.specs.Remeshed.{text_behind_head}
use Rattle.def_remesh.specs.Tasks.{Task}
use Rattle.def_text.specs.FaceSet.{FaceSet}
use Rattle.qm_write.specs.declared.text.Framed.{Framed}

-- The text of a remesh in its frame.
abbrev pub framed_text : (framed : Framed) (soup : FaceSet) (layout : Layout) → Bytes
framed_text framed soup layout =
    framed.head.items ++ text_behind_head framed.between.items framed.remesh.terms.rising soup layout
    framed.shares (certificates_of framed.remesh.certs)

-- What is kept of a layout that the cut of a task gives, in the frame that the task asks for.
pub record IsFramed (task : Task) (framed : Framed) (soup : FaceSet) (layout : Layout) : Type 0 where
  pub cut : IsCutLayout soup.faces task.marks layout
  pub settings : framed.remesh.terms.settings ≡ task.settings
  pub rising : framed.remesh.terms.rising ≡ task.rising
  pub shares : framed.shares ≡ task.shares
  pub kept : IsKept task.wish layout task.settings task.rising (certificates_of framed.remesh.certs)
      framed.remesh.numbering
  pub head : framed.head.items ≡ task.head ++ LINE_FEED ∷ []
  pub between : framed.between.items ≡ task.between layout (lengths_in (used (certificates_of framed.remesh.certs)).x)
