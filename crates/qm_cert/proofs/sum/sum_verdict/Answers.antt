use Rattle.std.proofs.Common.{◌≡◌, ℕ, ℤ, ◌<◌, ◌^◌, List, pos, ◌-ℤ◌, ◌*ℤ◌, sym, ◌∙◌, ap}
use Rattle.def_flow.specs.{Network.Network, Network.network, Admissible.deviation, Admissible.entries, Units.on_cost}
use Rattle.qm_cert.proofs.Checked.{cost_is, checked_same, deviation_small, lows_lengths}
use Rattle.{std.proofs.lemmas.Int.to_z-of_z, def_flow.specs.Gadget.lows}
use lib.Signed.{mag}
use mir.{Syntax.w128, Val.to_z, Val.of_z}
use Rattle.qm_cert.proofs.sum.sum_verdict.Goals as goal

-- A number of the type, written and read back.
back : (z : ℤ) → mag z < 2 ^ 127 → to_z w128 (of_z w128 z) ≡ z
back z small = to_z-of_z w128 z (record { sfits = small })

-- A deviation as the program has it.
far_is : (net : Network) (given xs : List ℕ) (r : ℤ) → mag r < 2 ^ 127 → r ≡ pos (deviation net (entries given))
    → given ≡ xs → to_z w128 (of_z w128 r) ≡ pos (deviation net (entries xs))
far_is net given xs r small is same = back r small ∙ (is ∙ ap (λ l. pos (deviation net (entries l))) same)

pub deviation-requires-clause-lengths : goal.deviation-requires-clause-lengths
deviation-requires-clause-lengths c =
    let listed = c.args.listed.now in
    rw c.requires.lows (lows_lengths (network listed.net.whole.now) listed.cert.now.x.items listed.lengths)

pub twice_between-requires-clause-near : goal.twice_between-requires-clause-near
twice_between-requires-clause-near c =
    let listed = c.args.listed.now in
    let net : Network = network listed.net.whole.now in
    rw (far_is net c.args.lows.now _ c.deviation.result c.deviation.type_inv c.deviation.ensures c.requires.lows)
    (deviation_small net (lows net 1 listed.cert.now.x.items) listed.net.bounds
    (lows_lengths net listed.cert.now.x.items listed.lengths))

pub twice_between-requires-clause-far : goal.twice_between-requires-clause-far
twice_between-requires-clause-far c =
    let listed = c.args.listed.now in
    let net : Network = network listed.net.whole.now in
    rw (far_is net c.deref.result.now listed.cert.now.x.items c.deviation-far.result c.deviation-far.type_inv
    c.deviation-far.ensures c.deref.ensures.value)
    (deviation_small net listed.cert.now.x.items listed.net.bounds listed.lengths)

pub returns : goal.returns
returns c =
    let net : Network = network c.args.listed.now.net.whole.now in
    let xs : List ℕ = c.args.listed.now.cert.now.x.items in
    let near : to_z w128 (of_z w128 c.deviation.result) ≡ pos (deviation net (entries (lows net 1 xs))) = far_is net
    c.args.lows.now (lows net 1 xs) c.deviation.result c.deviation.type_inv c.deviation.ensures c.requires.lows in
    let far : to_z w128 (of_z w128 c.deviation-far.result) ≡ pos (deviation net (entries xs)) =
    far_is net c.deref.result.now xs c.deviation-far.result c.deviation-far.type_inv c.deviation-far.ensures
    c.deref.ensures.value in
    let sum : to_z w128 (of_z w128 c.args.sum) ≡ c.args.sum = to_z-of_z w128 c.args.sum c.ranges.sum in
    let twice : pos 2 *ℤ (to_z w128 (of_z w128 c.deviation-far.result) -ℤ to_z w128 (of_z w128 c.deviation.result))
    ≡ pos 2 *ℤ on_cost net 1 xs =
    rw (far, near) (ap (λ z. pos 2 *ℤ z) (sym (cost_is net xs c.args.listed.now.lengths.count))) in
    let cost : to_z w128 (of_z w128 c.twice_between.result) ≡ pos 2 *ℤ on_cost net 1 xs =
    back c.twice_between.result c.twice_between.type_inv ∙ (c.twice_between.ensures ∙ twice) in
    c.verdict_by_sum.ensures ∙ checked_same _ _ _ _ _ _ far (sum ∙ c.requires.sum) cost
