use Rattle.std.proofs.Common.{◌≡◌, ◌<◌, length, sym, ◌∙◌, false, get_or, arith}
use Rattle.{std.proofs.lemmas.List.get_or_read, qm_forest.proofs.TiedWrites.trail_room}
use Rattle.{qm_forest.proofs.TiedWrites.tied_touched}
use Rattle.{std.proofs.lemmas.Grind.common_steps, qm_forest.proofs.forest.Forest.touch.Goals.After-index}
use Rattle.qm_forest.proofs.forest.Forest.touch.Goals as goal

low : (c : After-index) → c.args.v < length c.self.inside.handles.hand.items
low c = rw (← c.self.view_is) at c.requires

mark_is : (c : After-index) → get_or c.self.inside.trail.touched.items c.args.v false ≡ c.index.result.now
mark_is c = sym (get_or_read _ c.args.v _ (rw c.self.invariant.sizes.touched (low c)) c.index.ensures false)

pub unwrap-requires : goal.unwrap-requires
unwrap-requires c =
    let at = (goal.at.unwrap-requires c).After-index in
    c.push.ensures.succeeds (let room = trail_room c.self.invariant _ (low at) (mark_is at ∙ c.if-not-index.true) in
    omega arith)

pub invariant_of-self : goal.invariant_of-self
invariant_of-self c =
    let at = (goal.at.invariant_of-self c).After-index in
    tied_touched c.self.invariant _ (low at) (mark_is at ∙ c.if-not-index.true) _
    (grind (arith, common_steps)) _ (omega arith)

pub returns-else-not-index-clause-here : goal.returns-else-not-index-clause-here
returns-else-not-index-clause-here c =
    let at = (goal.at.returns-else-not-index-clause-here c).After-index in
    rw (← c.self.view_is) (c.self.invariant.trail.marked _ (mark_is at ∙ c.if-not-index.false))
