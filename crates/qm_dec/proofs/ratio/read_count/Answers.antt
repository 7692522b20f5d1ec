use Rattle.std.proofs.Common.{rules, ◌≡◌, ap, sym, ◌∙◌, arith, min, ℕ, ◌≤◌}
use Rattle.{std.proofs.lemmas.Bool.false≢true, std.specs.Prelude.decimal, def_text.specs.Digits.number_written}
use Rattle.qm_dec.proofs.{ReadBack.not_printed, ReadBack.decimal_number, ratio.read_count.Goals.After-min-n}
use Rattle.qm_dec.proofs.ratio.read_count.Goals as goal

pub returns-then-not-are_digits : goal.returns-then-not-are_digits
returns-then-not-are_digits c n l h is = search (rules, not_printed)

-- A printed number is read as itself.
read : (c : After-min-n) (n : ℕ) → n ≤ c.args.greatest → c.args.word.now ≡ decimal n → c.min-n.result ≡ n
read c n h is = omega (
  arith,
  (c.min-n.ensures ∙ ap (λ k. min k 10001) c.number_after.ensures),
  ap number_written is,
  decimal_number n (omega (arith, c.requires)),
  c.requires,
)

pub returns-then-n-eq0 : goal.returns-then-n-eq0
returns-then-n-eq0 c n l h is =
    absurd (omega (arith, read (goal.at.returns-then-n-eq0 c).After-min-n n h is, c.then-n-eq0.either))

pub returns-else-is_written : goal.returns-else-is_written
returns-else-is_written c n l h is = false≢true (c.if-is_written.ensures.1
    (is ∙ ap decimal (sym (read (goal.at.returns-else-is_written c).After-min-n n h is))))
