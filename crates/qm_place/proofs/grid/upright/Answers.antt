use Rattle.std.proofs.Common.{◌*◌, refl, sym, ◌∙◌, arith}
use Rattle.def_layout.specs.Gluings.{east, west}
use Rattle.{def_written.specs.Places.ONE, qm_place.proofs.Entries.side_read}

pub returns : Rattle.qm_place.proofs.grid.upright.Goals.returns
returns c layout new spacing p low len is ends rows =
    let far = side_read layout new spacing p east c.at_place-east.ensures.before c.at_place-east.ensures.end
    (is.sides east) (len.upright p low) is.high (omega arith)
    ((λ k. ONE * (c.from-end.ensures ∙ rows) k) ∙ sym ends.east) in
    let near = side_read layout new spacing p west c.at_place-west.ensures.before c.at_place-west.ensures.end
    (is.sides west) refl is.high (omega arith) (sym ends.west) in
    c.mean.ensures ∙ rw (near, far, is.wide, is.high)
