use Rattle.qm_obj.proofs.FeedLemmas.{fed_piece, is_nothing, refused_before, sound_at, takes_behind}
use Rattle.{std.proofs.Common.[], std.proofs.Common.◌∷◌, qm_obj.specs.Views.kept_at, error_laws.proofs.Errors.handed}
use Rattle.qm_obj.proofs.progress.Progress.end_line.Goals as goal

pub returns-then-is_empty : goal.returns-then-is_empty
returns-then-is_empty c =
    let none = is_nothing c.if-is_empty.ensures c.args.self.now.tail.ok.0 in
    fed_piece (sound_at c.args.self.now) _ _ c.take.result c.requires.unended (rw none c.line_of.ensures) none
    c.take.ensures.took c.take.ensures.refused

pub returns-in_err-keep-clause-refused : goal.returns-in_err-keep-clause-refused
returns-in_err-keep-clause-refused c = handed _ _ _ c.from_residual.ensures.1 (λ other.
    refused_before (kept_at c.args.self.now) c.args.prefix.now (10 ∷ []) _ (c.in_err-keep.ensures.refused other))

pub returns : goal.returns
returns c = takes_behind _ _ _ c.in_ok-keep.ensures.took c.end_tail.ensures.took c.end_tail.ensures.refused
