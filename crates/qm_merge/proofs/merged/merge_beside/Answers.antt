use Rattle.std.proofs.Common.{arith}
use Rattle.{std.proofs.Common.rules, std.proofs.Common.◌≡◌, qm_grid.proofs.Laid.to_cutting}

pub merge_all-requires : Rattle.qm_merge.proofs.merged.merge_beside.Goals.merge_all-requires
merge_all-requires c =
    grind (arith, to_cutting c.args.mesh.now c.args.graph.now.covered.items c.faces.ensures.mesh c.requires.beside.full)
