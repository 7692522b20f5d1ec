use Rattle.{std.proofs.Common.sym, qm_mesh.proofs.OneFan.partner_is}

pub returns-clause-value : Rattle.qm_mesh.proofs.mesh.Mesh.twin.Goals.returns-clause-value
returns-clause-value c =
    let k = rw c.self.view_is at c.self.invariant in
    rw (c.partner.ensures, c.deref.ensures.value) (sym (partner_is c.args.self.now k.mesh.manifold.repeat_free
    k.mesh.manifold.edges_once c.args.d _ c.requires (k.partners.each c.args.d c.requires)))
