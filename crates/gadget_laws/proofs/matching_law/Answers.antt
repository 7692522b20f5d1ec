use Rattle.{std.proofs.Common.ℕ, std.proofs.Common.List, def_flow.specs.Gadget.lows, gadget_laws.specs.Box.ups}
use Rattle.{gadget_laws.specs.Box.matching_told, gadget_laws.proofs.Box.matching_law, gadget_laws.proofs.Arcs.in_box}

pub returns : Rattle.gadget_laws.proofs.matching_law.Goals.returns
returns c = λ net step xs ys start admissible inside.
    let js : List ℕ = ups step (lows net step xs) ys in
    let law = matching_law net step xs js ys start.bounds start.positive start.count start.admissible admissible
    (in_box step net.arcs xs ys start.positive start.count inside) in
    record { matching = matching_told net step xs js; perfect = law.0; cost = law.1 }
