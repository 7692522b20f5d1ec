use Rattle.{std.proofs.Common.◌≡◌, std.proofs.Common.arith, def_mesh.specs.Darts.darts}

pub returns : Rattle.qm_merge.proofs.links.all_links.Goals.returns
returns c =
    let all : c.loop-c.c ≡ darts c.args.cut.now.faces = omega (arith, c.is_full.ensures.long) in
    record { linked = rw all at c.loop-c.invariant.sides; starts = c.loop-c.invariant.starts }
