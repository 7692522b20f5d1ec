use Rattle.std.proofs.Common.{arith}
use Rattle.std.proofs.{Common.sym, Common.◌∙◌, lemmas.Bool.false≢true}
use Rattle.qm_merge.proofs.Rejoined.{may_told}
use Rattle.qm_merge.proofs.held.may_leave.Goals as goal

pub returns-then-marks-place : goal.returns-then-marks-place
returns-then-marks-place c = grind (arith, may_told c.requires.beside c.requires.seam.joinable)

pub returns-then-not-is_end_free : goal.returns-then-not-is_end_free
returns-then-not-is_end_free c = (
  λ y. absurd (false≢true y),
  λ y. absurd (false≢true (sym c.if-not-is_end_free.true
      ∙ c.is_end_free.ensures.1 ((may_told c.requires.beside c.requires.seam.joinable).0 y).1)),
)

pub returns : goal.returns
returns c = let may = may_told c.requires.beside c.requires.seam.joinable in (
  λ y. may.1 (c.if-marks-place.false, c.is_end_free.ensures.0 c.if-not-is_end_free.false, c.is_end_free-2.ensures.0 y),
  λ y. c.is_end_free-2.ensures.1 (may.0 y).2,
)
