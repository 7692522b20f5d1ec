use Rattle.std.proofs.Common.{rules, refl, []}
use Rattle.qm_obj.proofs.FeedLemmas.{fed_piece, sound_at}
use Rattle.qm_obj.proofs.progress.Progress.end_tail.Goals as goal

pub returns : goal.returns
returns c = fed_piece (sound_at c.args.self.now) _ [] _ refl (search rules) c.clear.ensures.items
    c.take-taken.ensures.took c.take-taken.ensures.refused
