use Rattle.std.proofs.Common.{length, ◌∙◌, ap, subst}
use Rattle.{def_text.specs.FaceSet.FaceSet, def_text.specs.FaceSet.IsSoup, qm_stages.proofs.Positions.all_placed}

pub returns-clause-each : Rattle.qm_stages.proofs.cut_mesh.CutMesh.names.Goals.returns-clause-each
returns-clause-each c =
    let same = c.soup.view_is ∙ c.soup-soup.ensures in
    let sound = subst IsSoup same c.soup.invariant in
    rw (← c.self.view_is) (ap length (c.deref.ensures.value ∙ ap (λ (s : FaceSet). s.names) same) ∙ sound.named
    ∙ all_placed c.self.invariant sound)
