use Rattle.{std.proofs.lemmas.Int.to_z-of_z, qm_stitch.specs.Rims.along_lines}
use Rattle.qm_stitch.proofs.{DoubledPairs.told_more, Lines.line_both}

pub returns : Rattle.qm_stitch.proofs.remedies.push_line.Goals.returns
returns c r =
    let long = c.size_at-last.ensures (along_lines c.args.line.upright) c.side_along.ensures.side in
    told_more (c.in_ok-push_remedy.ensures r) (c.in_ok-push_remedy-2.ensures r)
    (line_both c.args.priced.now c.args.line c.requires.line c.args.price c.args.run _ _ _ c.key_at-first.ensures
    (rw long at c.key_at-end.ensures) (to_z-of_z _ c.args.price c.ranges.price) r)
