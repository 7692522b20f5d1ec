use Rattle.std.proofs.Common.{length, ◌∙◌, ap, subst}
use Rattle.{def_text.specs.FaceSet.FaceSet, def_text.specs.FaceSet.IsSoup, qm_stages.proofs.Positions.all_placed}

pub returns-clause-each : Rattle.qm_stages.proofs.cut_mesh.CutMesh.pos.Goals.returns-clause-each
returns-clause-each c =
    let same = c.soup.view_is ∙ c.soup-soup.ensures in
    rw (← c.self.view_is) (ap length (c.deref.ensures.value ∙ ap (λ (s : FaceSet). s.pos) same)
    ∙ all_placed c.self.invariant (subst IsSoup same c.soup.invariant))
