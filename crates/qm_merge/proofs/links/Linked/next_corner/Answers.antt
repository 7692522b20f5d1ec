use Rattle.std.proofs.Common.{arith}
use Rattle.qm_merge.proofs.{Linked.linked, Linked.read_at, Rounds.next_is_corner}
use Rattle.qm_merge.proofs.links.Linked.next_corner.Goals as goal

pub returns-clause-next : goal.returns-clause-next
returns-clause-next c =
    let f = c.is_full.ensures in
    let same = read_at c.args.self.now.links.now.next.items c.args.corner c.index.ensures
    (omega (arith, c.args.self.now.tied.linked.nexts, c.requires.0)) in
    rw same (linked f.laws f.full c.args.self.now.links.now c.args.self.now.tied.linked c.args.corner c.requires)

pub returns-clause-corner : goal.returns-clause-corner
returns-clause-corner c = let f = c.is_full.ensures in next_is_corner f.laws f.full (returns-clause-next c)
