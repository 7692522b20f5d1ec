use Rattle.{std.proofs.Common.length, qm_dual.specs.Nest.ArePicks}

abbrev pub invariant-loop-k : Rattle.qm_dual.proofs.paths.greatest_inside.Given.invariant-loop-k
invariant-loop-k l = ArePicks l.sized.d.n (length l.sized.d.whole.now.z.items) l.k l.sized.d.whole.now.up.items
    l.sized.numbers.now l.picks.items
