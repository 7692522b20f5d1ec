-- Soundness: the list of an accepted certificate is least.
use Rattle.std.proofs.Common.{rules, ◌≡◌, ℕ, zero, suc, ◌-◌, ◌/◌, ◌<◌, ◌≤◌, true, false, List, [], ◌∷◌, length, ℤ, pos}
use Rattle.std.proofs.Common.{◌-ℤ◌, ◌≤ℤ◌, unsigned_abs, ◌∙◌, ap, inl, inr, arith, ◌+◌, ◌*◌, ◌%◌, Bool, ◌==◌, take}
use Rattle.std.proofs.Common.{drop, ◌+ℤ◌, refl, add-mul, one-mul, zero-mul, zero-add, add-zero}
use Rattle.{std.proofs.lemmas.Bool.cases_lt, sum_laws.proofs.Sums.integers, sum_laws.proofs.Sums.count_below_same}
use Rattle.def_flow.specs.Admissible.{IsAdmissible, IsLeast, arc_deviation, deviation, entries}
use Rattle.def_flow.specs.Units.{arcwise, down, low, cap, units_from, units, states_at, active, rim_active, cost_on}
use Rattle.def_flow.specs.{Network.Network, Network.IsWithinBounds, Network.arc_at}
use Rattle.def_flow.specs.{declared.net.Arc.Arc, MatchingGraph.matching_graph, Accepted.Certificate}
use Rattle.def_flow.specs.{Accepted.IsAccepted, Gadget.IsStepUp, Gadget.IsInBox, Gadget.lows, Gadget.caps}
use Rattle.def_flow.specs.{declared.units.ArcUnit.ArcUnit}
use Rattle.network_laws.proofs.Part.{same_sides, lift_law, arc_convex}
use Rattle.gadget_laws.specs.{Box.IsRaised, Box.ups, Marks.trues, Told.marks_from, Told.states_told}
use Rattle.gadget_laws.specs.{Told.steps_told, Told.lengths_on, Told.lengths_told}
use Rattle.gadget_laws.proofs.{Box.own_box, Box.arcwise_length, Box.box_length, Box.down_fits, Box.weighted_ends}
use Rattle.gadget_laws.proofs.{Box.units_length, Box.box_active, Box.box_sides, Box.told_active, Box.cost_split}
use Rattle.gadget_laws.proofs.{Box.first_length, Box.side_list, Box.balanced_list, Box.deviations, Box.deviation_list}
use Rattle.gadget_laws.proofs.{Box.graph_law, Box.box_deviation, Box.matching_law, Box.units_at}
use Rattle.gadget_laws.proofs.{Units.UnitsAt, Perfect.told_length, Perfect.told_fills, Perfect.told_cost}
use Rattle.def_matching.specs.Matching.{IsPerfect, matching_cost}
use Rattle.{std.specs.Prelude.slice_index, qm_dual.proofs.Weak.weak_duality}

-- A list of whole numbers near xs as a list, and how many units it has on.
abbrev listed : (ℕ → ℤ) → List ℕ → List ℕ
listed f [] = []
listed f (x ∷ xs) = unsigned_abs (f 0) ∷ listed (λ k. f (suc k)) xs

abbrev units_on : List Arc → (ℕ → ℤ) → List ℕ → List ℕ
units_on (a ∷ arcs) f (x ∷ xs) = (unsigned_abs (f 0) - low 1 a x) ∷ units_on arcs (λ k. f (suc k)) xs
units_on _ f _ = []

-- What is not negative is listed as it is.
listed_entries : (f : ℕ → ℤ) (xs : List ℕ) → ((k : ℕ) → k < length xs → pos 0 ≤ℤ f k) → (k : ℕ) → k < length xs
    → entries (listed f xs) k ≡ f k
listed_entries f [] high k l = absurd (omega arith)
listed_entries f (x ∷ xs) high zero l = omega (integers, high 0 (omega arith))
listed_entries f (x ∷ xs) high (suc k) l =
    listed_entries (λ j. f (suc j)) xs (λ j lj. high (suc j) (omega arith)) k (omega arith)

-- Each entry is high enough and within 2 of the one of xs.
abbrev IsNear : (ℕ → ℕ) → (ℕ → ℤ) → List ℕ → Type 0
IsNear floors f xs = (k : ℕ) → k < length xs → (pos (floors k) ≤ℤ f k) × (pos (floors k) ≤ℤ entries xs k)
    × (unsigned_abs (f k -ℤ entries xs k) ≤ 2)

-- A near list is in the box.
near_box : (arcs : List Arc) (f : ℕ → ℤ) (xs : List ℕ) → length xs ≡ length arcs
    → IsNear (λ k. (arc_at arcs k).floor) f xs → IsRaised 1 arcs xs (units_on arcs f xs) (listed f xs)
near_box (a ∷ arcs) f (x ∷ xs) l near =
    search (rules, near_box arcs (λ k. f (suc k)) xs (omega arith) (λ k lk. near (suc k) (omega arith)))
near_box _ f _ l near = search rules

-- No list near that of an accepted certificate is better.
near_not_better : (net : Network) (c : Certificate) → IsWithinBounds net → IsAccepted net c → (f : ℕ → ℤ)
    → IsAdmissible net f → ((k : ℕ) → k < length net.arcs → unsigned_abs (f k -ℤ entries c.x k) ≤ 2)
    → deviation net (entries c.x) ≤ deviation net f
near_not_better net c bounds accepted f af near =
    let ys : List ℕ = listed f c.x in
    let js : List ℕ = units_on net.arcs f c.x in
    let is_near : IsNear (λ k. (arc_at net.arcs k).floor) f c.x = search rules in
    let same : (k : ℕ) → k < length net.arcs → entries ys k ≡ f k = search (rules, listed_entries, integers) in
    let fits : IsAdmissible net (entries ys) = record {
      high = λ k l. (let e : entries ys k ≡ f k = same k l in omega (integers, e, af.high k l));
      balanced = λ v. same_sides _ _ f same true v ∙ (search (rules, same_sides));
    } in
    let told = matching_law _ 1 _ js ys bounds (omega arith) accepted.count accepted.admissible
    fits (near_box _ f _ accepted.count is_near) in
    omega (
      integers,
      accepted.sums,
      weak_duality _ _ (graph_law _ 1 _ bounds) accepted.yes _ told.0,
      told.1,
      box_deviation net 1 _ _ _ accepted.count (own_box 1 _ _ accepted.count),
      count_below_same _ _ _ (λ k l. ap (arc_deviation net (arc_at net.arcs k)) (same k l)),
    )

-- The list of an accepted certificate is least.
pub sound : (net : Network) (c : Certificate) → IsWithinBounds net → IsAccepted net c → IsLeast net (entries c.x)
sound net c bounds accepted = record {
  admissible = accepted.admissible;
  least = λ other ao. elim (cases_lt (deviation net other) (deviation net (entries c.x))) [
    | inr le ↦ le
    | inl better ↦
        let (near, a, close, less) = lift_law net (entries c.x) other accepted.admissible ao better in
        absurd (omega (arith, near_not_better net c bounds accepted near a close, less))
  ];
}

-- Lists in a box, and the steps that their entries are above the lows.

step_up : (j step l y : ℕ) → 1 ≤ step → y ≡ l + j * step → (y - l) / step ≡ j
step_up j step l y some is = search rules

-- The list is in the box of the list that the lows and caps are of.
pub in_box : (step : ℕ) (arcs : List Arc) (xs ys : List ℕ) → 1 ≤ step
    → length xs ≡ length arcs → IsInBox step (arcwise (low step) arcs xs) (arcwise (cap step) arcs xs) ys
    → IsRaised step arcs xs (ups step (arcwise (low step) arcs xs) ys) ys
in_box step (a ∷ arcs) (x ∷ xs) (y ∷ ys) some l are =
    let e = are.each 0 (omega arith) in
    search (
      rules,
      step_up,
      in_box step arcs xs ys some (omega arith)
          (record { count = omega arith; each = λ k lk. are.each (suc k) (omega arith) }),
    )
in_box step arcs xs ys some l are = search rules

-- The other way round.
raised_each : (step : ℕ) (arcs : List Arc) (xs js ys : List ℕ) → IsRaised step arcs xs js ys → (k : ℕ) → k < length ys
    → IsStepUp (slice_index (arcwise (low step) arcs xs) k) (slice_index (arcwise (cap step) arcs xs) k) step
    (slice_index ys k)
raised_each step (a ∷ arcs) (x ∷ xs) (j ∷ js) (y ∷ ys) raised zero l = record { up = j; few = raised.0; is = raised.1 }
raised_each step (a ∷ arcs) (x ∷ xs) (j ∷ js) (y ∷ ys) raised (suc k) l =
    raised_each step arcs xs js ys raised.2 k (omega arith)
raised_each step _ _ _ _ raised k l = search rules

pub raised_in_box : (step : ℕ) (arcs : List Arc) (xs js ys : List ℕ) → length xs ≡ length arcs
    → IsRaised step arcs xs js ys → IsInBox step (arcwise (low step) arcs xs) (arcwise (cap step) arcs xs) ys
raised_in_box step arcs xs js ys l raised = search (rules, box_length, arcwise_length, raised_each)

-- Any states of the units tell a list of the box: the cost of the units that are on is at least its deviation.

-- The deviation of an arc with so many steps above its low.
abbrev at_step : Network → ℕ → Arc → ℕ → ℕ → ℕ
at_step net step a x k = arc_deviation net a (pos (low step a x + k * step))

-- A step costs no less further up.
increments : (net : Network) (step : ℕ) (a : Arc) (x k t : ℕ) → at_step net step a x (k + 1) + at_step net step a x
    (k + t) ≤ at_step net step a x k + at_step net step a x (k + 1 + t)
increments net step a x k t =
    let here : ℤ = pos (low step a x + k * step) in
    let there : ℤ = pos (low step a x + (k + 1 + t) * step) in
    let up : here +ℤ pos step ≡ pos (low step a x + (k + 1) * step) =
    omega (integers, add-mul k 1 step, one-mul step) in
    let less : there -ℤ pos step ≡ pos (low step a x + (k + t) * step) = omega (integers, add-mul k t step) in
    let convex = arc_convex net a here there (pos step) (inl (omega integers, omega integers)) in
    omega (arith, ap (arc_deviation net a) up, ap (arc_deviation net a) less)

-- Any units of an arc that are on cost no less than the first ones.
any_cost : (net : Network) (step : ℕ) (a : Arc) (x k n : ℕ) (os : List Bool) → n ≤ length os → pos (at_step net step a x
    (k + trues (take n os))) ≤ℤ (cost_on (units_from net step a (low step a x) k n) os +ℤ pos (at_step net step a x k))
any_cost net step a x k zero os l = rw (add-zero k) (omega integers)
any_cost net step a x k (suc n) (true ∷ os) l =
    let past : k + (1 + trues (take n os)) ≡ k + 1 + trues (take n os) = omega arith in
    omega (integers, ap (at_step net step a x) past, any_cost net step a x (k + 1) n os (omega arith))
any_cost net step a x k (suc n) (false ∷ os) l =
    let none : k + (0 + trues (take n os)) ≡ k + trues (take n os) = omega arith in
    let same = ap (at_step net step a x) none in let rest = any_cost net step a x (k + 1) n os (omega arith) in
    omega (integers, increments net step a x k (trues (take n os)))
any_cost net step a x k _ _ l = absurd (omega arith)

trues_take : (n : ℕ) (ms : List Bool) → trues (take n ms) ≤ n
trues_take (suc n) (m ∷ ms) = grind (arith, trues_take n ms)
trues_take _ _ = omega arith

-- The list that states tell is in the box.
pub told_box : (step : ℕ) (arcs : List Arc) (xs : List ℕ) (ons : List Bool) → length xs ≡ length arcs
    → IsRaised step arcs xs (steps_told step arcs xs ons) (lengths_on step arcs xs (steps_told step arcs xs ons))
told_box step (a ∷ arcs) (x ∷ xs) ons l =
    (trues_take (cap step a x) ons, refl, told_box step arcs xs (drop (cap step a x) ons) (omega arith))
told_box step _ _ ons l = search rules

told_dear : (net : Network) (step : ℕ) (arcs : List Arc) (xs : List ℕ) (ons : List Bool) → length ons ≡ length
    (units net step arcs xs) → pos (deviations net arcs (lengths_on step arcs xs (steps_told step arcs xs ons)))
    ≤ℤ (cost_on (units net step arcs xs) ons +ℤ pos (deviations net arcs (arcwise (low step) arcs xs)))
told_dear net step (a ∷ arcs) (x ∷ xs) ons m =
    let n = cap step a x in
    let ls = first_length net _ a _ x xs _ m in
    let begin : low step a x + 0 * step ≡ low step a x = omega (arith, zero-mul step) in
    let first = ap (λ k. arc_deviation net a (pos k)) begin in
    let any = ap (at_step net step a x) (zero-add (trues (take n ons))) in
    let split = cost_split _ (units net step arcs xs) ons (units_length net step a (low step a x) 0 n) ls.0 in
    omega (integers, any_cost net step a x 0 n ons ls.0, told_dear net step arcs xs (drop n ons) ls.1)
told_dear net step _ _ ons m = omega integers

-- No end is at a node past the last.
pub active_past : (nodes v : ℕ) (us : List ArcUnit) (ons : List Bool) → nodes ≤ v → UnitsAt nodes us
    → active v us ons ≡ 0
active_past nodes v (u ∷ us) (on ∷ ons) le at =
    grind (arith, active_past nodes v us ons le at.1)
active_past nodes v _ _ le at = refl

-- Each list of the box is as high as the floors.
box_high : (step : ℕ) (arcs : List Arc) (xs js ys : List ℕ) → IsRaised step arcs xs js ys → ((k : ℕ) → k < length arcs
    → pos (arc_at arcs k).floor ≤ℤ entries xs k) → (k : ℕ) → k < length arcs → pos (arc_at arcs k).floor ≤ℤ entries ys k
box_high step (a ∷ arcs) (x ∷ xs) (j ∷ js) (y ∷ ys) box high zero l =
    let first : pos a.floor ≤ℤ pos x = high 0 (omega arith) in
    omega (integers, box.1, first, down_fits step a x)
box_high step (a ∷ arcs) (x ∷ xs) (j ∷ js) (y ∷ ys) box high (suc k) l =
    box_high step arcs xs js ys box.2 (λ i li. high (suc i) (omega arith)) k (omega arith)
box_high step _ _ _ _ box high k l = search rules

-- The lengths law.
pub lengths_law : (net : Network) (step : ℕ) (xs m : List ℕ) → IsWithinBounds net → 1 ≤ step
    → length xs ≡ length net.arcs → IsAdmissible net (entries xs) → IsPerfect (matching_graph net step xs) m
    → (length (lengths_told net step xs m) ≡ length net.arcs) × IsAdmissible net (entries (lengths_told net step xs m))
    × ((pos (deviation net (entries (lengths_told net step xs m))) -ℤ pos
    (deviation net (entries (lows net step xs)))) ≤ℤ matching_cost (matching_graph net step xs) m)
    × IsInBox step (lows net step xs) (caps net step xs) (lengths_told net step xs m)
lengths_law net step xs m bounds positive l ax perfect =
    let us : List ArcUnit = units net _ _ xs in
    let copies_at : ℕ → ℕ = λ v. active v us (states_at net step xs) in
    let lone : Bool = rim_active us (states_at net step xs) % 2 == 1 in
    let ms : List Bool = marks_from 0 (length (matching_graph net step xs).edges) m in
    let ons : List Bool = states_told copies_at us ms in
    let js : List ℕ = steps_told step net.arcs xs ons in
    let ds : List ℕ = arcwise (down _) net.arcs xs in
    let ys : List ℕ = lengths_told net step xs m in
    let box : IsRaised step net.arcs xs js ys = told_box _ _ xs _ l in
    let own : IsRaised step net.arcs xs ds xs = own_box _ _ xs l in
    let count : length ys ≡ length net.arcs = box_length _ _ xs js ys box in
    let at : UnitsAt net.nodes us = units_at _ _ xs bounds in
    let ons_count : length ons ≡ length us = told_length _ us ms in
    let fills : (v : ℕ) → active v us ons ≡ copies_at v = λ v. elim (cases_lt v net.nodes) [
      | inl before ↦ told_fills _ _ _ us at m perfect v before
      | inr past ↦ search (rules, active_past)
    ] in
    let side : (v : ℕ) → weighted_ends v true net.arcs ys ≡ weighted_ends v false net.arcs ys = λ v.
    (let equal : weighted_ends v true net.arcs js + weighted_ends v false net.arcs ds
    ≡ weighted_ends v false net.arcs js + weighted_ends v true net.arcs ds = omega (
      arith,
      fills v,
      told_active net _ v _ xs _ ons_count,
      box_active net step v net.arcs xs ds xs own,
    ) in omega (
      arith,
      ap (λ n. step * n) equal,
      box_sides net step v net.arcs xs js ys ds xs box own,
      balanced_list net.arcs xs l ax.balanced v,
    )) in (
      count,
      record { high = box_high step net.arcs xs js ys box ax.high; balanced = search (rules, side_list) },
      omega (
        integers,
        told_cost net.nodes copies_at lone us at m perfect,
        told_dear net step net.arcs xs ons ons_count,
        deviation_list net net.arcs ys count,
        deviation_list net net.arcs (lows net step xs) (arcwise_length (low step) net.arcs xs l),
      ),
      raised_in_box step net.arcs xs js ys l box,
    )
