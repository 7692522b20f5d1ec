use Rattle.def_layout.specs.{Gluings.south, Gluings.east, Gluings.north, Gluings.west, Layouts.gluing_of}
use Rattle.def_layout.specs.{Layouts.layout_of}
use Rattle.{std.proofs.Common.refl, def_remesh.specs.NewPoints.lengths_in, qm_blocks.proofs.Tables.block_put}

pub returns : Rattle.qm_blocks.proofs.spots.put_block.Goals.returns
returns c =
    let l = gluing_of (layout_of c.args.measured.now.t.now) in
    let x = lengths_in c.args.measured.now.x.now in
    block_put l x c.args.block _ _ _ _ _ (c.put_side.ensures south refl) (c.put_side-2.ensures east refl)
    (c.put_side-3.ensures north refl) (c.put_side-4.ensures west refl)
