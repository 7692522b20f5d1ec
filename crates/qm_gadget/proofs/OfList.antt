-- What is made of each arc and its entry, at one place.
use Rattle.std.proofs.lemmas.{Grind.common_steps, List.get_or_past, List.Elements.All-from_recursion}
use Rattle.std.proofs.lemmas.{List.Elements.recursion_from_All, Bool.cases_lt}
use Rattle.std.proofs.Common.{rules, ◌≡◌, ℕ, zero, suc, ◌+◌, ◌<◌, List, [], ◌∷◌, ◌++◌, length, take, get_or, refl, sym}
use Rattle.std.proofs.Common.{◌∙◌, ap, arith, ◌*◌, ◌^◌, ◌≤◌, inl, inr, Bool}
use Rattle.std.specs.Prelude.{slice_index}
use Rattle.def_flow.specs.Network.{arc_at, EndsBelow, Network, IsWithinBounds, tangle_number}
use Rattle.def_flow.specs.{declared.net.Arc.Arc, declared.units.ArcUnit.ArcUnit, Gadget.caps, Gadget.lows}
use Rattle.def_flow.specs.Units.{arcwise, low, units, active, units_over, states_over}
use Rattle.def_flow.specs.MatchingGraph.{graph_by, matching_graph, first_fresh, unit_size, rim}
use Rattle.def_flow.specs.Admissible.{IsAdmissible, entries, AreNetLengths}
use Rattle.def_matching.specs.Matching.{WeightedGraph, IsCheap, IsSmallGraph}
use Rattle.qm_gadget.specs.{Layout.copies_in, declared.plan.Plan.Plan}
use Rattle.qm_gadget.specs.Ready.{graph_by_lows, IsReady, IsPlan, own_states as states_of_caps, marks_over}
use Rattle.qm_gadget.proofs.NodeCounts.{same_everywhere, active_low}
use Rattle.gadget_laws.{specs.Marks.states_marks, specs.Marks.rim_states, specs.Box.ups, proofs.Box.arcwise_length}
use Rattle.gadget_laws.proofs.{Box.costs, Box.units_at, Box.graph_law, Arcs.active_past, Edges.size_low, Size.size_law}
use Rattle.def_math.specs.Counts.{count, count_below}

-- At an arc of the list.
pub arcwise_at : (f : Arc → ℕ → ℕ) (arcs : List Arc) (xs : List ℕ) (k : ℕ) → length xs ≡ length arcs → k < length arcs
    → get_or (arcwise f arcs xs) k 0 ≡ f (arc_at arcs k) (get_or xs k 0)
arcwise_at f (a ∷ arcs) (x ∷ xs) zero same l = refl
arcwise_at f (a ∷ arcs) (x ∷ xs) (suc k) same l = arcwise_at f arcs xs k (omega arith) (omega arith)
arcwise_at f _ _ k same l = absurd (omega arith)

-- One arc more of the first ones.
pub arcwise_more : (f : Arc → ℕ → ℕ) (arcs : List Arc) (xs : List ℕ) (k : ℕ) → length xs ≡ length arcs → k < length xs
    → arcwise f (take (k + 1) arcs) (take (k + 1) xs) ≡ arcwise f (take k arcs) (take k xs) ++ f (arc_at arcs k)
    (get_or xs k 0) ∷ []
arcwise_more f (a ∷ arcs) (x ∷ xs) zero same l = refl
arcwise_more f (a ∷ arcs) (x ∷ xs) (suc k) same l = search (rules, arcwise_more f arcs xs k (omega arith) (omega arith))
arcwise_more f _ _ k same l = absurd (omega arith)

-- One entry more, read at an arc of the list.
pub arcwise_next : (f : Arc → ℕ → ℕ) (arcs : List Arc) (xs : List ℕ) (k : ℕ) {out new : List ℕ} {y : ℕ} {a : Arc}
    → length xs ≡ length arcs → k < length xs → out ≡ arcwise f (take k arcs) (take k xs) → new ≡ out ++ y ∷ []
    → y ≡ f a (get_or xs k 0) → a ≡ get_or arcs k a → new ≡ arcwise f (take (k + 1) arcs) (take (k + 1) xs)
arcwise_next f arcs xs k {a = a} same low outs news entry at =
    grind (arith, common_steps, arcwise_more f arcs xs k same low)

-- The lows and caps of an admissible list are ready for a plan, and its plan gives its matching graph.

-- There are no more units than vertices of units.
units_few : (us : List ArcUnit) → length us ≤ count unit_size us
units_few [] = omega arith
units_few (u ∷ us) = omega (arith, size_low u.left u.right, units_few us)

module _ {net : Network} (step : ℕ) {xs : List ℕ} (bounds : IsWithinBounds net) (lengths : AreNetLengths net.arcs xs)
    (admissible : IsAdmissible net (entries xs)) (tangle : tangle_number net ≤ 2 ^ 25) where
  -- The matching graph is lawful and small, and its costs are so low that no sum of them overflows.
  pub graph_fits : {g : WeightedGraph} → g ≡ matching_graph net step xs → (16 * g.n ≤ 9 * tangle_number net)
      × (8 * length g.edges ≤ 9 * tangle_number net) × IsSmallGraph g × (step ≤ 4096 → IsCheap g)
  graph_fits is =
      let law = size_law net step xs bounds lengths.count admissible in
      let few : (matching_graph net step xs).n ≤ 20000000 = omega (arith, law.0) in
      let small : IsSmallGraph (matching_graph net step xs) = search (rules, graph_law) in
      rw is (law.0, law.1, small, λ short k l. grind (arith, few, costs net step xs bounds k l))

  -- The lows and caps of an admissible list.
  pub list_ready : IsReady net step (lows net step xs) (caps net step xs)
  list_ready = record {
    boxes = search (rules, arcwise_length, arcwise_at, lengths);
    few = omega (arith, units_few (units net step net.arcs xs), graph_fits refl);
    at = All-from_recursion (λ u. EndsBelow net.nodes u.left u.right) _ (units_at net step xs bounds);
  }

-- There is a number of steps for each entry.
pub ups_length : (step : ℕ) (ls ys : List ℕ) → length ls ≡ length ys → length (ups step ls ys) ≡ length ls
ups_length step [] ys same = refl
ups_length step (l ∷ ls) [] same = absurd (omega arith)
ups_length step (l ∷ ls) (y ∷ ys) same = ap suc (ups_length step ls ys (omega arith))

-- No more units are at the rim than there are.
pub rim_states_few : (us : List ArcUnit) (ons : List Bool) → length (rim_states us ons) ≤ length us
rim_states_few (u ∷ us) (on ∷ ons) = grind (arith, rim_states_few us ons)
rim_states_few _ _ = omega arith

module _ {net : Network} {step : ℕ} {ls cs : List ℕ} {p : Plan} (ready : IsReady net step ls cs)
    (plan : IsPlan net step ls cs p) where
  -- The copies of a plan are the active ends at each number, also past the nodes.
  pub plan_counts : copies_in p.counts.items ≡ (λ v. active v (units_over net step net.arcs ls cs) (states_of_caps cs))
  plan_counts = same_everywhere _ _ (λ v. elim (cases_lt v _) [
    | inl l ↦ plan.counts.each v l
    | inr h ↦ get_or_past _ v 0 (omega (arith, plan.counts.count)) ∙ sym (active_past _ v _ (states_of_caps cs) h
        (recursion_from_All (λ u. EndsBelow net.nodes u.left u.right) (units_over net step net.arcs ls cs) ready.at))
  ])

  -- The graph of a plan.
  pub plan_graph : graph_by (length p.counts.items) (copies_in p.counts.items) p.lone p.units.items
      ≡ graph_by_lows net step ls cs
  plan_graph = rw (plan_counts, plan.counts.count, plan.lone, plan.units) refl

  -- The graph of a plan is small.
  pub plan_small : (graph_by_lows net step ls cs).n ≤ 2 ^ 25
      → first_fresh (length p.counts.items) (copies_in p.counts.items) p.lone p.units.items + 2 * length
      (rim (count_below (copies_in p.counts.items) (length p.counts.items)) p.units.items) < 2 ^ 26
  plan_small small = search (rules, plan_graph)

  -- The marks of a plan.
  pub plan_marks : (js : List ℕ) → states_marks (length p.counts.items) (copies_in p.counts.items) p.lone p.units.items
      (states_over cs js) ≡ marks_over net step ls cs js
  plan_marks js = rw (plan_counts, plan.counts.count, plan.lone, plan.units) refl

  -- A plan has few units, and few copies of each node.
  pub plan_few : (length p.units.items ≤ 2 ^ 25) × ((v : ℕ) → slice_index p.counts.items v ≤ 2 ^ 27)
  plan_few = search (rules, active_low, get_or_past)
