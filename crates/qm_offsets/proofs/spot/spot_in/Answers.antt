use Rattle.std.proofs.Common.{rules, ◌≡◌, ◌⊎◌, ◌+◌, ◌<◌, ◌≤◌, length, get_or, sym, inl, inr, arith}
use Rattle.{def_math.specs.Counts.count_below, qm_offsets.proofs.Spots.spot_between}

pub returns-clause-run : Rattle.qm_offsets.proofs.spot.spot_in.Goals.returns-clause-run
returns-clause-run c sizes runs are =
    let i = c.halves.invariant in
    let next : c.halves.high ≡ c.halves.low + 1 = omega (arith, i.apart, c.halves-test.false) in
    sym (spot_between sizes runs c.args.place c.halves.low (omega (arith, i.high_low, i.apart, are.count)) (from i.from)
    (to next i.to))
  where
    from : (c.halves.low ≡ 0) ⊎ (get_or c.args.starts.now c.halves.low 0 ≤ c.args.place)
        → (c.halves.low ≡ 0) ⊎ (count_below sizes c.halves.low ≤ c.args.place)
    from (inl z) = inl z
    from (inr le) = search rules

    to : c.halves.high ≡ c.halves.low + 1 → (c.halves.high + 1 ≡ length c.args.starts.now)
        ⊎ (c.args.place < get_or c.args.starts.now c.halves.high 0)
        → (c.halves.low + 1 ≡ runs) ⊎ (c.args.place < count_below sizes (c.halves.low + 1))
    to next (inl e) = inl (omega (arith, e, next, are.count))
    to next (inr less) = search rules
