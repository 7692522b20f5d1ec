use Rattle.{std.proofs.Common.rules, qm_forest.proofs.JoinedLists.list_few}
use Rattle.qm_forest.proofs.forest.Forest.members.Goals as goal

pub list_members-requires-clause-lists : goal.list_members-requires-clause-lists
list_members-requires-clause-lists c =
    let sizes = c.self.invariant.sizes in
    let low = rw (← c.self.view_is) at c.requires.used.low in
    let list = c.self.invariant.nest.members c.args.b low (rw (← c.self.view_is) at c.requires.used.used) in
    let many = rw (← sizes.following) at (list_few list) in
    search rules
