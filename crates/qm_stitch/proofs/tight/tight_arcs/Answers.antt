use Rattle.std.proofs.{Common.◌∙◌, lemmas.List.with_items_is}
use Rattle.qm_stitch.proofs.{DoubledPairs.told_both, Grids.counts, Grids.patches_long, TightEdges.tight_is}

pub returns-clause-each : Rattle.qm_stitch.proofs.tight.tight_arcs.Goals.returns-clause-each
returns-clause-each c arc low =
    let all = patches_long c.args.keyed.now.numbered.t.now.patches.items in
    let long = c.in_ok-tight.ensures.long in
    let adds = rw (c.deref_mut.ensures.value, ← all) at (c.mark_patches.ensures arc (omega counts)) in
    rw (with_items_is c.in_ok-tight.tight c.mark_patches.new.tight
    (c.mark_patches.auto.tight ∙ c.deref_mut.ensures.len))
    (told_both (c.in_ok-tight.ensures.each arc low) adds (tight_is _ _ arc))
