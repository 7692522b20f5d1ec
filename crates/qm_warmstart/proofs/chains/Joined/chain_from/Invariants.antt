use Rattle.std.proofs.Common.{◌≡◌, ◌<◌, ◌*◌, length}
use Rattle.qm_warmstart.specs.Tables.{AreBelow}

abbrev pub invariant-loop : Rattle.qm_warmstart.proofs.chains.Joined.chain_from.Given.invariant-loop
invariant-loop l = (length l.taken ≡ length l.initial.taken) × (l.here < 2 * length l.initial.taken) × AreBelow
    (2 * length l.initial.taken) l.chain.items
