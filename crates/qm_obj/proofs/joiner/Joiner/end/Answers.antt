use Rattle.std.proofs.Common.{rules, arith, []}
use Rattle.qm_obj.proofs.FeedLemmas.{ended_line, is_nothing, is_something, long_line, refused_line, sound_of}
use Rattle.qm_obj.proofs.JoinLemmas.{behind_alone, behind_joined}
use Rattle.{qm_obj.specs.Views.kept_of, error_laws.proofs.Errors.handed}
use Rattle.qm_obj.proofs.joiner.Joiner.end.Goals as goal

pub returns-in_err-take-clause-refused : goal.returns-in_err-take-clause-refused
returns-in_err-take-clause-refused c =
    let self = c.args.self.now in
    handed _ _ _ c.from_residual.ensures.1 (λ other. refused_line (sound_of self) _ (behind_alone (kept_of self []) _
    c.requires.ends (is_nothing c.if-is_empty.ensures self.joined.ok.0)) (c.in_err-take.ensures.refused other))

pub returns-then-is_empty-clause-took : goal.returns-then-is_empty-clause-took
returns-then-is_empty-clause-took c =
    let self = c.args.self.now in
    let none = is_nothing c.if-is_empty.ensures self.joined.ok.0 in
    ended_line (sound_of self) _ (behind_alone (kept_of self []) _ c.requires.ends none) none c.in_ok-take.ensures.kept

pub returns-then-size-gt-MAX_LINE-clause-refused : goal.returns-then-size-gt-MAX_LINE-clause-refused
returns-then-size-gt-MAX_LINE-clause-refused c = λ _.
    rw c.too_long.ensures (long_line (sound_of c.args.self.now) c.args.line.now (search rules) (omega arith))

pub returns-in_err-read-clause-refused : goal.returns-in_err-read-clause-refused
returns-in_err-read-clause-refused c =
    let self = c.args.self.now in
    handed _ _ _ c.from_residual-in_err-read.ensures.1 (λ other. refused_line (sound_of self) _
    (behind_joined (kept_of self []) c.args.line.now c.requires.ends (is_something _ c.if-is_empty.ensures
    self.joined.ok.0) self.bare) (search rules))

pub returns-clause-took : goal.returns-clause-took
returns-clause-took c =
    let self = c.args.self.now in
    ended_line (sound_of self) _ (behind_joined (kept_of self []) c.args.line.now c.requires.ends
    (is_something _ c.if-is_empty.ensures self.joined.ok.0) self.bare) c.clear.ensures.items (search rules)
