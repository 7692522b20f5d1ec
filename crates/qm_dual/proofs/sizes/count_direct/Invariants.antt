use Rattle.{std.proofs.Common.length, qm_dual.specs.Nest.AreTallies}

abbrev pub invariant-loop-v : Rattle.qm_dual.proofs.sizes.count_direct.Given.invariant-loop-v
invariant-loop-v l = AreTallies l.d.n (length l.d.whole.now.z.items) l.d.whole.now.up.items l.v (λ k. 0) l.sizes
