use Rattle.std.proofs.Common.{◌≡◌, ℕ, ◌+◌, ◌-◌, ◌*◌, ◌/◌, sym, ◌∙◌, ap, arith}
use Rattle.std.proofs.Math.Nat.{mul-div_cancel}

-- All parts of a way that leads nowhere.
whole : (near some rest : ℕ) → near * rest + near * some ≡ near * (rest + some)
whole near some rest = omega arith

pub returns-then-near-far : Rattle.qm_place.proofs.grid.mean.Goals.returns-then-near-far
returns-then-near-far c =
    let parts : (c.args.parts - c.args.some) + c.args.some ≡ c.args.parts = omega arith in
    sym (ap (λ far. (c.args.near * (c.args.parts - c.args.some) + far * c.args.some) / c.args.parts)
    (sym c.if-near-far.true) ∙ (ap (λ sum. sum / c.args.parts) (whole _ _ _ ∙ ap (λ n. c.args.near * n) parts)
    ∙ mul-div_cancel _ c.requires.1))
