use Rattle.{std.proofs.Common.◌≡◌, std.proofs.Common.◌*◌, std.proofs.Common.length, qm_warmstart.specs.Tables.AreBelow}
use Rattle.qm_warmstart.proofs.chains.joined_ends.Given as goal

abbrev pub invariant-loop-end : goal.invariant-loop-end
invariant-loop-end l = (length l.at.items ≡ l.end) × AreBelow (2 * length l.net.whole.now.arcs.items) l.at.items

abbrev pub invariant-loop-site : goal.invariant-loop-site
invariant-loop-site l = (length l.at.items ≡ 2 * length l.net.whole.now.arcs.items)
    × AreBelow (2 * length l.net.whole.now.arcs.items) l.at.items
