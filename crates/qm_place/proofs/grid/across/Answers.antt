use Rattle.std.proofs.Common.{◌*◌, refl, sym, ◌∙◌, arith}
use Rattle.def_layout.specs.Gluings.{south, north}
use Rattle.{def_written.specs.Places.ONE, qm_place.proofs.Entries.side_read}

pub returns : Rattle.qm_place.proofs.grid.across.Goals.returns
returns c layout new spacing p low len is ends columns =
    let near = side_read layout new spacing p south c.at_place-south.ensures.before c.at_place-south.ensures.end
    (is.sides south) refl is.wide (omega arith) ((λ k. ONE * (c.from-end.ensures ∙ columns) k) ∙ sym ends.south) in
    let far = side_read layout new spacing p north c.at_place-north.ensures.before c.at_place-north.ensures.end
    (is.sides north) (len.across p low) is.wide (omega arith) (sym ends.north) in
    c.mean.ensures ∙ rw (near, far, is.wide, is.high)
