use Rattle.std.proofs.Common.{◌≡◌, ℕ, ◌*◌, ◌^◌, ◌<◌, ◌≤◌, pos, length, unsigned_abs, ◌∙◌, add-one, arith}
use Rattle.std.proofs.{lemmas.Int.ints, lemmas.List.get_or_read}
use Rattle.{def_matching.specs.Dual.DualLists, def_matching.specs.Dual.dual, def_matching.specs.Dual.z_at}
use Rattle.{qm_dual.specs.Nest.around, qm_dual.proofs.Gathered.around_small, qm_dual.proofs.Gathered.around_step}
use Rattle.{qm_dual.proofs.Gathered.named_around, qm_dual.proofs.sums.own_sum.Goals.After-sum_of}
use Rattle.qm_dual.proofs.sums.own_sum.Goals as goal

-- The number of the set, and what the sets around it gather: both are small.
parts : (c : After-sum_of) → let n = c.args.d.now.n in let d = dual c.args.d.now.whole.now in
    (c.sum_of.result ≡ around n d c.set_around_set.result) × (c.index.result.now ≡ z_at d c.args.k)
    × (unsigned_abs (z_at d c.args.k) < 10 ^ 18)
    × (unsigned_abs (around n d c.set_around_set.result) ≤ length d.z * 10 ^ 18)
parts c =
    let n : ℕ = c.args.d.now.n in
    let d : DualLists = dual c.args.d.now.whole.now in (
      c.sum_of.ensures ∙ named_around c.requires.summed c.set_around_set.result
          (omega (arith, c.set_around_set.ensures.later)) (λ ne. omega (arith, c.set_around_set.ensures.later)),
      get_or_read d.z c.args.k c.index.result.now c.requires.inner c.index.ensures (pos 0),
      c.args.d.now.small.small_z c.args.k c.requires.inner,
      around_small n d c.args.d.now.small.small_z c.set_around_set.result,
    )

pub overflow_add-result : goal.overflow_add-result
overflow_add-result c = omega (arith, ints, parts c)

pub returns : goal.returns
returns c =
    let d : DualLists = dual c.args.d.now.whole.now in
    let step = around_step c.args.d.now.n d c.args.d.now.nest.nested c.args.k c.requires.inner in
    rw (add-one, step, ← c.set_around_set.ensures.value) (omega (arith, ints, parts c))
