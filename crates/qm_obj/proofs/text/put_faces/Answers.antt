use Rattle.def_text.specs.Canonical.{face_text}
use Rattle.qm_output.proofs.Prefixes.{of_error, stops_at_item}

pub returns-in_err-put_face-clause-part : Rattle.qm_obj.proofs.text.put_faces.Goals.returns-in_err-put_face-clause-part
returns-in_err-put_face-clause-part g c =
    let laws = g.met.T.Output in
    of_error _ (stops_at_item _ _ laws.stops_later laws.stops_before face_text _ _ _ _ _ _ c.loop-face-test.true
    c.loop-face.invariant c.in_err-put_face.ensures.part)
