use Rattle.std.proofs.Common.{rules}
use Rattle.{std.proofs.Common.◌∙◌, qm_offsets.proofs.Whole.way_for}
use Rattle.qm_stitch.proofs.Grids.{counts, long_is}
use Rattle.qm_stitch.proofs.size.size_at.Goals as goal

pub last_of-requires : goal.last_of-requires
last_of-requires c =
    let (way, same) = way_for c.args.side c.requires.side in
    search (rules, counts)

pub returns : goal.returns
returns c way same = (search rules) ∙ long_is c.args.numbered.now.numbers c.args.patch way (omega counts)
