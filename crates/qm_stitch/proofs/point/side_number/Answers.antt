use Rattle.{std.proofs.Common.rules}
use Rattle.qm_stitch.proofs.{Grids.there, Grids.IsThere, point.side_number.Goals.After-spot_in-at}
use Rattle.qm_stitch.proofs.point.side_number.Goals as goal

here : (c : After-spot_in-at) → IsThere c.args.side.now.numbered.numbers c.args.side.now.arcs.now
    c.args.side.now.starts.now c.args.place c.spot_in-at.result
here c =
    let side = c.args.side.now in
    there side.numbered.numbers side.arcs.now side.some side.begun c.requires (c.spot_in-at.ensures.run _ _ side.begun)

pub overflow_sub-place : goal.overflow_sub-place
overflow_sub-place c = (here (goal.at.overflow_sub-place c).After-spot_in-at).from

pub use_number-requires-clause-upto : goal.use_number-requires-clause-upto
use_number-requires-clause-upto c = (here (goal.at.use_number-requires-clause-upto c).After-spot_in-at).upto

pub returns : goal.returns
returns c = search (rules, here)
