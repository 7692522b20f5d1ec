use Rattle.qm_obj.{specs.Indices.corner_of, specs.Lines.IsReadTo, specs.Lines.uncommented}
use Rattle.{def_text.specs.Corner.is_corner_word, def_text.specs.Words.words, std.proofs.Common.length}
use Rattle.qm_obj.proofs.line.read_face.Given as goal

abbrev pub invariant-words : goal.invariant-words
invariant-words l = IsReadTo is_corner_word (corner_of l.vertices) (words (uncommented l.text)) 4 l.count
    (words (uncommented l.rest)) l.corners

abbrev pub decreases-words : goal.decreases-words
decreases-words l = length (words (uncommented l.rest))
