use Rattle.std.proofs.Common.{sym, ◌∙◌}
use Rattle.{qm_marks.proofs.Pieces.read_more, qm_obj.proofs.WordLemmas.some_from}

pub words-preserved : Rattle.qm_marks.proofs.corners.read_corners.Goals.words-preserved
words-preserved c =
    let next = rw (sym c.is_empty.ensures ∙ c.if-is_empty.false) at c.first_word.ensures in
    rw c.in_ok-push.ensures.items (read_more c.words.invariant next
    (some_from _ _ _ (sym c.read_corner.ensures ∙ c.in-Some.is)))
