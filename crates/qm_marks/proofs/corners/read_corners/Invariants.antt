use Rattle.{std.proofs.Common.length, def_text.specs.Words.words, qm_marks.proofs.Pieces.IsReadTo}
use Rattle.qm_marks.proofs.corners.read_corners.Given as goal

abbrev pub invariant-words : goal.invariant-words
invariant-words l = IsReadTo l.place.all l.place.before l.text l.rest l.indices.items

abbrev pub decreases-words : goal.decreases-words
decreases-words l = length (words l.rest)
