-- A remesh in the frame of its text has the text of its task.
use Rattle.std.proofs.Common.{◌≡◌, [], ◌∷◌, ◌++◌, append_assoc, ◌∙◌}
use Rattle.def_certtext.specs.CertLines.{certificates_of, used}
use Rattle.def_remesh.specs.{NewPoints.lengths_in, Remeshed.finished_text, Remeshed.text_behind_head, Tasks.Task}
use Rattle.qm_write.specs.{Framing.framed_text, Framing.IsFramed, declared.text.Framed.Framed}
use Rattle.{def_layout.specs.Layouts.Layout, def_text.specs.FaceSet.FaceSet}

module _ (task : Task) (framed : Framed) (soup : FaceSet) (layout : Layout) (is : IsFramed task framed soup layout)
  where
    pieces_are : framed_text framed soup layout ≡ (task.head ++ 10 ∷ []) ++ text_behind_head
        (task.between layout (lengths_in (used (certificates_of framed.remesh.certs)).x)) task.rising soup layout
        task.shares (certificates_of framed.remesh.certs)
    pieces_are = λ i. is.head i ++ text_behind_head (is.between i) (is.rising i) soup layout (is.shares i)
        (certificates_of framed.remesh.certs)

    -- Its text is that of the task.
    pub text_is : framed_text framed soup layout ≡ finished_text task soup layout (certificates_of framed.remesh.certs)
    text_is = pieces_are ∙ append_assoc task.head (10 ∷ []) _
