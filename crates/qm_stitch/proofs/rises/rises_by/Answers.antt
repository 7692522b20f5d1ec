use Rattle.std.proofs.Common.{rules}
use Rattle.qm_stitch.proofs.rises.rises_by.Goals.{in-Some+in_ok-push, in_default}
use Rattle.{std.proofs.Common.refl, qm_stitch.proofs.RiseLists.rises_too, qm_stitch.proofs.RiseLists.stays}

pub loop-arc-preserved : Rattle.qm_stitch.proofs.rises.rises_by.Goals.loop-arc-preserved
loop-arc-preserved c = elim c.match-floor_of.branch [
  | in-Some+in_ok-push w ↦ rw (w.rises-is, w.in_ok-push.ensures.items)
      (rises_too _ _ _ _ (record { arc = c.loop-arc.arc; floor = w.in-Some.floor }) _ c.loop-arc.invariant refl
      c.loop-arc-test.true ((c.floor_of.ensures w.in-Some.floor).0 w.in-Some.is))
  | in_default w ↦ rw w.rises-is (stays _ _ _ _ _ c.loop-arc.invariant (search rules))
]
