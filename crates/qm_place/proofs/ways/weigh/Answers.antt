use Rattle.qm_place.proofs.Casts.{weighed_is}

pub returns : Rattle.qm_place.proofs.ways.weigh.Goals.returns
returns c =
    let is = weighed_is c.args.n c.from.ensures c.from-2.ensures c.from-3.ensures c.requires.weights.0
    c.requires.weights.1 c.requires.short in
    record { value = is.0; short = is.1 }
