use Rattle.std.proofs.Common.{arith, refl, []}
use Rattle.qm_obj.{proofs.JoinLemmas.joined_more, proofs.JoinLemmas.behind_held, proofs.FeedLemmas.long_line}
use Rattle.qm_obj.{proofs.FeedLemmas.sound_of, specs.Views.kept_of}
use Rattle.qm_obj.proofs.joiner.Joiner.hold.Goals as goal

pub returns-clause-took : goal.returns-clause-took
returns-clause-took c = record {
  same = λ lines. rw (behind_held (kept_of c.args.self.now []) c.args.line.now lines c.requires.more)
      (rw (c.number-number.ensures, c.in_ok-append_spaced.ensures.grown) refl);
  next = refl;
}

pub returns-then-len-line-gt-MAX_LINE-clause-refused : goal.returns-then-len-line-gt-MAX_LINE-clause-refused
returns-then-len-line-gt-MAX_LINE-clause-refused c = λ _. rw c.too_long.ensures
    (long_line (sound_of c.args.self.now) c.args.line.now c.number-number.ensures (omega arith))

pub invariant_of-self-2 : goal.invariant_of-self-2
invariant_of-self-2 c = joined_more c.args.self.now.joined.items c.args.line.now c.requires.more
    c.in_ok-append_spaced.ensures.grown c.args.self.now.bare (omega arith)
