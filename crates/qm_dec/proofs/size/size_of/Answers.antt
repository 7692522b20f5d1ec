use Rattle.std.proofs.Common.{rules, ℤ, pos, ◌-ℤ◌, ◌≡◌, arith, ap, sym, ◌∙◌, ◌*◌, ◌-◌, ◌^◌, ◌++◌}
use Rattle.std.proofs.lemmas.Int.{ints}
use Rattle.qm_dec.proofs.Digits.{clamp_scaled, ten_power, two_parts}
use Rattle.{def_text.specs.Decimal.scaled, def_text.specs.Digits.number_written, qm_dec.specs.Sizes.clamped}

pub returns-then-down-up : Rattle.qm_dec.proofs.size.size_of.Goals.returns-then-down-up
returns-then-down-up c =
    let up : pos c.args.up -ℤ pos c.args.down ≡ pos (c.args.up - c.args.down) = omega (arith, ints) in
    c.times_power.ensures ∙ ap (λ v. clamped (v * 10 ^ (c.args.up - c.args.down))) (search (rules, two_parts))
    ∙ clamp_scaled (number_written (c.args.whole.now ++ c.args.fraction.now)) (10 ^ (c.args.up - c.args.down))
    (ten_power (c.args.up - c.args.down))
    ∙ ap (λ (z : ℤ). clamped (scaled (number_written (c.args.whole.now ++ c.args.fraction.now)) z)) (sym up)
