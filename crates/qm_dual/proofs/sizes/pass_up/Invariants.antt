use Rattle.{std.proofs.Common.length, std.proofs.Common.min, qm_dual.specs.Nest.AreTallies}

abbrev pub invariant-loop-k : Rattle.qm_dual.proofs.sizes.pass_up.Given.invariant-loop-k
invariant-loop-k l = AreTallies l.d.n (length l.d.whole.now.z.items) l.d.whole.now.up.items l.d.n (λ j. min j l.k)
    l.sizes
