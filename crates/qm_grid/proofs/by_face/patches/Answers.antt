use Rattle.qm_grid.proofs.Laid.{to_cutting}

pub new-cut-requires : Rattle.qm_grid.proofs.by_face.patches.Goals.new-cut-requires
new-cut-requires c = rw c.deref.ensures.value
    (to_cutting c.args.mesh.now c.args.graph.now.covered.items c.faces-faces.ensures.mesh c.requires.cut)
