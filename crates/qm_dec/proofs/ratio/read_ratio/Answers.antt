use Rattle.std.proofs.Common.{rules, ◌≡◌, ℕ, ◌<◌, List, take, drop, length, ap, sym, ◌∙◌, arith}
use Rattle.{std.proofs.lemmas.Bool.eqb-true, std.specs.List.position_or_len, def_text.specs.Corner.is_slash}
use Rattle.qm_dec.proofs.{Digits.some_from, ReadBack.joined, ReadBack.sides, ratio.read_ratio.Goals.After-split_at}
use Rattle.qm_dec.proofs.ratio.read_ratio.Goals as goal

-- What stands before the slash, and from it on.
front : (c : After-split_at) → c.split_at.result.0.now ≡ take (position_or_len is_slash c.args.word.now) c.args.word.now
front c = rw (← c.find_byte.ensures.exact) c.split_at.ensures.front

back : (c : After-split_at) → c.split_at.result.1.now ≡ drop (position_or_len is_slash c.args.word.now) c.args.word.now
back c = rw (← c.find_byte.ensures.exact) c.split_at.ensures.back

pub returns-then-is_empty : goal.returns-then-is_empty
returns-then-is_empty c p q r =
    let behind = back (goal.at.returns-then-is_empty c).After-split_at ∙ (sides c.args.word.now p q r).1 in
    absurd (omega (arith, eqb-true (length c.split_at.result.1.now) 0 (sym c.if-is_empty.ensures), ap length behind))

pub returns-in_default : goal.returns-in_default
returns-in_default c p q r = c.in_default.ensures p r.p_low r.p_high
    (front (goal.at.returns-in_default c).After-split_at ∙ (sides c.args.word.now p q r).0)

pub returns-in_default-read_count : goal.returns-in_default-read_count
returns-in_default-read_count c p q r =
    c.in_default-read_count.ensures q r.q_low r.q_high (c.behind_first.ensures ∙ ap (λ (xs : List ℕ). drop 1 xs)
    (back (goal.at.returns-in_default-read_count c).After-split_at ∙ (sides c.args.word.now p q r).1))

pub returns : goal.returns
returns c =
    let at = (goal.at.returns c).After-split_at in
    let some : 0 < length (drop (position_or_len is_slash c.args.word.now) c.args.word.now) =
    omega (arith, some_from c.split_at.result.1.now c.if-is_empty.ensures, ap length (back at)) in
    search (rules, joined, front, drop, back)
