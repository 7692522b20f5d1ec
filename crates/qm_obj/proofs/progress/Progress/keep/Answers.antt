use Rattle.std.proofs.{Common.rules, Common.arith, lemmas.Result.on_ok_weaker}
use Rattle.qm_obj.proofs.FeedLemmas.{kept_piece, long_piece, sound_at, tail_more}
use Rattle.qm_obj.proofs.progress.Progress.keep.Goals as goal

pub returns-then-bytes-held-clause-refused : goal.returns-then-bytes-held-clause-refused
returns-then-bytes-held-clause-refused c = λ _. rw c.too_long.ensures
    (long_piece (sound_at c.args.self.now) c.args.bytes.now c.requires.unended c.number.ensures (omega arith))

pub returns-clause-took : goal.returns-clause-took
returns-clause-took c = on_ok_weaker _ (λ grown. kept_piece (sound_at c.args.self.now) c.requires.unended grown)
    c.append.ensures.grown

pub invariant_of-self : goal.invariant_of-self
invariant_of-self c = search (rules, tail_more)
