use Rattle.qm_obj.{specs.Lines.IsReadTo, specs.Lines.uncommented, specs.Positions.coordinate}
use Rattle.{def_text.specs.Decimal.is_decimal, def_text.specs.Words.words, std.proofs.Common.length}
use Rattle.qm_obj.proofs.line.read_vertex.Given as goal

abbrev pub invariant-words : goal.invariant-words
invariant-words l = IsReadTo is_decimal coordinate (words (uncommented l.text)) 3 l.count (words (uncommented l.rest))
    l.slots

abbrev pub decreases-words : goal.decreases-words
decreases-words l = length (words (uncommented l.rest))
