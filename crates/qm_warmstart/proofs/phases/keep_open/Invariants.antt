use Rattle.{std.proofs.Common.◌≡◌, std.proofs.Common.◌≤◌, std.proofs.Common.length, qm_warmstart.specs.Tables.AreBelow}

abbrev pub invariant-loop-k : Rattle.qm_warmstart.proofs.phases.keep_open.Given.invariant-loop-k
invariant-loop-k l = (length l.nodes.items ≡ length l.initial.nodes.items) × (l.kept ≤ l.k) × AreBelow
    l.flow.cover.now.nodes l.nodes.items
