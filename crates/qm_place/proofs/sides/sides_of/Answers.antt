use Rattle.std.proofs.{Common.below_more, Common.length-append, lemmas.List.get_or_append_left, lemmas.List.get_or_push}
use Rattle.{std.proofs.Common.arith, qm_place.proofs.Rims.rim_kept}

pub loop-patch-preserved : Rattle.qm_place.proofs.sides.sides_of.Goals.loop-patch-preserved
loop-patch-preserved c = record {
  count = rw (c.in_ok-push.ensures.items, length-append) (omega arith);
  each = rw c.in_ok-push.ensures.items (below_more _ _
      (λ p less. rw (get_or_append_left c.loop-patch.rims.items _ _ p (omega arith))
      (rim_kept c.in_ok-rim.ensures.kept (c.loop-patch.invariant.each p less)))
      (rw (get_or_push c.loop-patch.rims.items c.in_ok-rim.rim _ _ c.loop-patch.invariant.count)
      c.in_ok-rim.ensures.rim));
}
