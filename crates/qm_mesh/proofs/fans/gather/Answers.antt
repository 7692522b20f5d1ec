use Rattle.{std.proofs.Common.◌<◌, std.proofs.Common.arith, qm_mesh.proofs.Vertices.hold_more}

pub loop-d-preserved : Rattle.qm_mesh.proofs.fans.gather.Goals.loop-d-preserved
loop-d-preserved c =
    let quads = c.args.quads.now in
    let low : c.from.result < quads.vertices =
    omega (arith, c.from.ensures, quads.are.within c.loop-d.d (omega arith)) in
    hold_more quads.faces.now quads.vertices c.loop-d.d c.from.result c.loop-d.fans.items c.add.new.fans.items
    c.loop-d.invariant c.from.ensures low c.in_ok-add.ensures
