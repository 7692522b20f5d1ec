use Rattle.{std.proofs.Common.arith, qm_stitch.proofs.Built.tight_more}

pub loop-patch-preserved : Rattle.qm_stitch.proofs.tight.mark_patches.Goals.loop-patch-preserved
loop-patch-preserved c arc low = tight_more _ (c.loop-patch.invariant arc low) (c.mark_lines.ensures arc (omega arith))
    (c.mark_lines-in-loop-patch.ensures arc (omega arith))
