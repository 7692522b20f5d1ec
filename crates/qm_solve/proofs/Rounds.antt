-- The entries of a dual that says yes name its sets.
use Rattle.std.proofs.Common.{List, arith, get_or, length, pos, refl, sym, true, ℕ, ℤ, ◌*ℤ◌, ◌-ℤ◌, ◌≡◌, ◌≤ℤ◌, ◌≤◌}
use Rattle.std.proofs.lemmas.{Bool.Decides.nat_tests, Int.ints}
use Rattle.def_flow.specs.{Admissible.deviation, Admissible.entries, Descent.IsSolution, Descent.IsStartOf}
use Rattle.def_flow.specs.{Gadget.IsInBox, Gadget.caps, Gadget.lows, MatchingGraph.matching_graph}
use Rattle.def_flow.specs.{Network.IsWithinBounds, Network.Network, Units.arcwise, Units.down, Units.on_cost}
use Rattle.def_matching.specs.Dual.{DualLists, IsSmallDual, is_up, verdict}
use Rattle.def_matching.specs.Matching.{IsGraph, IsPerfect, WeightedGraph, matching_cost}
use Rattle.{def_matching.specs.declared.weighted.Verdict.TheVariants.Yes, gadget_laws.proofs.Arcs.raised_in_box}
use Rattle.{gadget_laws.proofs.Box.box_deviation, gadget_laws.proofs.Box.own_box, qm_dual.proofs.Verdicts.yes_bounds}
use Rattle.{qm_dual.proofs.Verdicts.yes_says, qm_solve.proofs.Starts.start_lengths, qm_solve.specs.Idle.AreNamed}

-- An entry that is lawful at its place.
named_at : (n m i entry : ℕ) → is_up n m i entry ≡ true → entry ≤ m
named_at n m i entry up = grind (arith, nat_tests, up)

-- The entries of a dual that says yes name its sets.
pub named_sets : (g : WeightedGraph) (d : DualLists) (sum : ℤ) → verdict g d ≡ Yes sum → AreNamed (length d.z) d.up
named_sets g d sum said i low =
    let says = (yes_says g d sum said).0 in
    named_at g.n (length d.z) i (get_or d.up i 0) (says.nested.later i (omega (arith, low, says.nested.entries)))

-- What the costs of two matchings tell of the list.

-- A list is in its own box.
pub own_inside : (net : Network) (step s : ℕ) (xs ls cs : List ℕ) → length xs ≡ length net.arcs → s ≡ step
    → ls ≡ lows net step xs → cs ≡ caps net step xs → IsInBox s ls cs xs
own_inside net step s xs ls cs count steps low cap = rw (steps, low, cap) (raised_in_box step net.arcs xs
    (arcwise (down step) net.arcs xs) xs count (own_box step net.arcs xs count))

-- Where the found matching costs no less than that of the list, the sum of its dual is twice the cost of the units that
-- are on.
pub sums_meet : (net : Network) (step : ℕ) (xs : List ℕ) (g : WeightedGraph) (d : DualLists) (m known : List ℕ)
    → length xs ≡ length net.arcs → g ≡ matching_graph net step xs → IsGraph g → IsPerfect g known
    → matching_cost g known ≡ pos (deviation net (entries xs)) -ℤ pos (deviation net (entries (lows net step xs)))
    → verdict g d ≡ Yes (pos 2 *ℤ matching_cost g m) → matching_cost g known ≤ℤ matching_cost g m
    → verdict (matching_graph net step xs) d ≡ Yes (pos 2 *ℤ on_cost net step xs)
sums_meet net step xs g d m known count is lawful perfect of_list says no_less =
    let no_more : (pos 2 *ℤ matching_cost g m) ≤ℤ (pos 2 *ℤ matching_cost g known) =
    yes_bounds g d (verdict g d) lawful refl (pos 2 *ℤ matching_cost g m) says known perfect in
    let on : on_cost net step xs ≡ pos (deviation net (entries xs)) -ℤ pos (deviation net (entries (lows net step xs)))
    = box_deviation net step xs (arcwise (down step) net.arcs xs) xs count (own_box step net.arcs xs count) in
    let same : pos 2 *ℤ matching_cost g m ≡ pos 2 *ℤ on_cost net step xs =
    omega (arith, ints, no_more, no_less, of_list, on) in
    cc

-- With step 1 and no better list the descent is done, and the last round's dual makes the certificate.
pub solved : (net : Network) (xs : List ℕ) (step : ℕ) (d : DualLists) → IsWithinBounds net → IsStartOf net xs → step ≡ 1
    → (verdict (matching_graph net step xs) d ≡ Yes (pos 2 *ℤ on_cost net step xs)) × IsSmallDual d
    → IsSolution net (record { x = xs; dual = d })
solved net xs step d bounds from one found =
    let says = yes_says (matching_graph net 1 xs) d (pos 2 *ℤ on_cost net 1 xs) (rw one at found.0) in
    record {
      accepted = record { count = from.count; admissible = from.admissible; yes = says.0; sums = sym says.1 };
      lengths = start_lengths net xs bounds from;
      small = found.1;
    }
