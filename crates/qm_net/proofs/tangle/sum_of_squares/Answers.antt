use Rattle.std.proofs.Common.{◌≡◌, ◌*◌, List, ℕ, length, refl, ◌∙◌, ap, arith}
use Rattle.{std.specs.Prelude.slice_index, def_math.specs.Counts.count_below, def_flow.specs.Network.Network}
use Rattle.{def_flow.specs.Network.network, qm_net.proofs.Ends.degrees_low, qm_net.proofs.Ends.squares}
use Rattle.qm_net.proofs.tangle.sum_of_squares.Goals as goal

pub loop-degree-init : goal.loop-degree-init
loop-degree-init c =
    let net : Network = network c.args.degrees.now.net.whole.now in
    record {
      value = refl;
      small = omega arith;
      each = degrees_low net.nodes net.arcs c.args.degrees.now.at.items c.args.degrees.now.tally
          c.args.degrees.now.net.bounds.few;
    }

pub returns : goal.returns
returns c =
    let net : Network = network c.args.degrees.now.net.whole.now in
    let table : List ℕ = c.args.degrees.now.at.items in
    let end : c.loop-degree.degree-index ≡ length table = omega (arith, ap length c.deref-degree-items.ensures.value) in
    c.loop-degree.invariant.value ∙ (ap (count_below (λ v. 16 * (slice_index table v * slice_index table v))) end
    ∙ squares net.nodes net.arcs table c.args.degrees.now.tally)
