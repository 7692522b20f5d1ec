use Rattle.{qm_offsets.proofs.Whole.way_for}

pub returns-in-Side : Rattle.qm_stitch.proofs.cheapest.mark_run.Goals.returns-in-Side
returns-in-Side c =
    let (way, same) = way_for _ (rw c.in-Side.is at c.requires.run).1 in
    rw c.in-Side.is (rw (← same) (c.mark_side.ensures way same))
