use Rattle.qm_obj.proofs.FeedLemmas.{ended_tail, is_nothing, is_something, sound_at}
use Rattle.{qm_obj.specs.Views.kept_of, def_io.specs.Lines.line_of, std.proofs.Common.refl, std.proofs.Common.◌∙◌}
use Rattle.std.proofs.{Common.[], Common.ap}
use Rattle.qm_obj.proofs.progress.Progress.end.Goals as goal

pub returns-then-is_empty-clause-same : goal.returns-then-is_empty-clause-same
returns-then-is_empty-clause-same c = rw (is_nothing c.if-is_empty.ensures c.args.self.now.tail.ok.0) refl

pub returns : goal.returns
returns c = ended_tail (sound_at c.args.self.now) (kept_of c.take-taken.new.self []) c.take-taken.result
    (is_something _ c.if-is_empty.ensures c.args.self.now.tail.ok.0) (c.line_of.ensures ∙ ap line_of
    c.deref.ensures.value) c.take-taken.ensures.took c.take-taken.ensures.refused
