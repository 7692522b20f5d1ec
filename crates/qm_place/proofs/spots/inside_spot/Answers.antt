use Rattle.{std.proofs.Common.◌∙◌, std.proofs.Common.arith, qm_place.proofs.Entries.offset_read}
use Rattle.qm_place.proofs.spots.inside_spot.Goals as goal

pub cell_spot-requires-clause-grid : goal.cell_spot-requires-clause-grid
cell_spot-requires-clause-grid c =
    let are = c.args.placed.now.placed in
    let at = offset_read are c.requires.inside.low c.index.ensures c.index-2.ensures in
    let is = are.rims _ c.requires.inside.low in rw (at.begin_is, at.columns_are) (omega arith)

pub returns : goal.returns
returns c =
    let are = c.args.placed.now.placed in
    let at = offset_read are c.requires.inside.low c.index.ensures c.index-2.ensures in
    c.cell_spot.ensures ∙ rw (at.begin_is, at.columns_are)
