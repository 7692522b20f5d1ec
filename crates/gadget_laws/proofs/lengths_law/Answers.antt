use Rattle.{std.proofs.Common.rules, gadget_laws.proofs.Arcs.lengths_law}

pub returns : Rattle.gadget_laws.proofs.lengths_law.Goals.returns
returns c = λ net step xs m start perfect.
    let law = lengths_law net step xs m start.bounds start.positive start.count start.admissible perfect in search rules
