-- Lists in the box, as states of the units: the active ends at a node, and the cost.
use Rattle.std.proofs.Common.{rules, ◌≡◌, ℕ, zero, suc, ◌+◌, ◌-◌, ◌*◌, ◌≤◌, Bool, true, false, cond, ◌&&◌, ◌==◌, List}
use Rattle.std.proofs.Common.{[], ◌∷◌, ◌++◌, length, take, drop, pos, ◌+ℤ◌, refl, sym, ◌∙◌, ap, add-mul, mul-add}
use Rattle.std.proofs.Common.{mul_comm, zero-mul, zero-add, add-zero, length-append, arith, ◌%◌, IsTrue, ◌-ℤ◌, ◌<◌, ℤ}
use Rattle.std.proofs.{Common.◌*ℤ◌, lemmas.List.length-drop, lemmas.Bool.and_parts, lemmas.Bool.Decides.nat_tests}
use Rattle.std.proofs.Math.Nat.{mul-div_cancel_left, mul-le-mul_left, mul-le-mul}
use Rattle.def_flow.specs.Network.{Network, ends, arc_at, EndsBelow, IsWithinBounds, is_bounded}
use Rattle.def_flow.specs.{declared.net.Arc.Arc, declared.net.End.End, declared.units.ArcUnit.ArcUnit}
use Rattle.def_flow.specs.Admissible.{IsBalanced, is_on_side, side_sum, arc_deviation, entries, IsAdmissible, deviation}
use Rattle.def_flow.specs.Units.{arcwise, down, low, cap, units_from, units, run, states, is_active, active, cost_on}
use Rattle.def_flow.specs.Units.{unit_at, states_at, rim_active}
use Rattle.gadget_laws.specs.{Marks.trues, Box.IsRaised, Box.matching_told, Told.steps_told}
use Rattle.def_matching.specs.Matching.{IsGraph, IsPerfect, matching_cost, edge_at}
use Rattle.gadget_laws.proofs.Whole.{StatesFit, states_perfect, states_cost, rim_parity}
use Rattle.gadget_laws.proofs.Edges.{each_append, graph_lawful, IsEdge, graph_edges}
use Rattle.{std.proofs.lemmas.List.Elements.All-from_recursion, def_flow.specs.MatchingGraph.matching_graph}
use Rattle.{def_flow.specs.Gadget.lows, gadget_laws.proofs.Units.UnitsAt, std.specs.List.list_all}
use Rattle.{std.specs.List.AllByRecursion, std.specs.Prelude.unsigned_abs, sum_laws.proofs.Sums.integers}
use Rattle.{sum_laws.proofs.Sums.count_below_prefix, def_math.specs.Sums.total, def_math.specs.Counts.count}
use Rattle.{def_math.specs.Counts.count_below, qm_dual.proofs.Tallies.total_below_prefix}

-- The steps down from an entry lead no lower than its floor.
pub down_fits : (step : ℕ) (a : Arc) (x : ℕ) → down step a x * step ≤ x - a.floor
down_fits step a x = search rules

-- A list is its lows and as many steps as it can give up.
pub own_box : (step : ℕ) (arcs : List Arc) (xs : List ℕ) → length xs ≡ length arcs
    → IsRaised step arcs xs (arcwise (down step) arcs xs) xs
own_box step (a ∷ arcs) (x ∷ xs) l = search (rules, down_fits, own_box step arcs xs (omega arith))
own_box step _ _ l = search rules

pub arcwise_length : (f : Arc → ℕ → ℕ) (arcs : List Arc) (xs : List ℕ) → length xs ≡ length arcs
    → length (arcwise f arcs xs) ≡ length arcs
arcwise_length f (a ∷ arcs) (x ∷ xs) l = omega (arith, arcwise_length f arcs xs (omega arith))
arcwise_length f _ _ l = omega arith

-- How many ends of an arc are active at a node where its unit is on, or off.
abbrev pub arc_active : ℕ → Bool → Arc → ℕ
arc_active v on a = count (λ e. cond ((e.node == v) && is_active on e) 1 0) (ends a)

pub units_length : (net : Network) (step : ℕ) (a : Arc) (l k n : ℕ) → length (units_from net step a l k n) ≡ n
units_length net step a l k zero = refl
units_length net step a l k (suc n) = omega (arith, units_length net step a l (k + 1) n)

pub run_length : (j n : ℕ) → length (run j n) ≡ n
run_length j zero = refl
run_length zero (suc n) = omega (arith, run_length zero n)
run_length (suc j) (suc n) = omega (arith, run_length j n)

-- There are as many states as units.
pub states_count : (net : Network) (step : ℕ) (arcs : List Arc) (xs js ys : List ℕ) → IsRaised step arcs xs js ys
    → length (units net step arcs xs) ≡ length (states step arcs xs js)
states_count net step (a ∷ arcs) (x ∷ xs) (j ∷ js) (y ∷ ys) box = simp (length-append, units_length, run_length)
    (ap (λ n. cap step a x + n) (states_count net step arcs xs js ys box.2))
states_count net step _ _ _ _ box = search rules

-- The states of an arc's units: how many of them are on, and those of the other arcs.
run_told : (j n : ℕ) (os : List Bool) → j ≤ n → (trues (take n (run j n ++ os)) ≡ j) × (drop n (run j n ++ os) ≡ os)
run_told _ zero os le = search rules
run_told zero (suc n) os le = search (rules, run_told zero n os (omega arith))
run_told (suc j) (suc n) os le = search (rules, run_told j n os (omega arith))

-- The active ends of an arc with any states of its units.
any_active : (net : Network) (step v : ℕ) (a : Arc) (x k n : ℕ) (os : List Bool) → n ≤ length os
    → active v (units_from net step a (low step a x) k n) os + trues (take n os) * arc_active v false a
    ≡ trues (take n os) * arc_active v true a + n * arc_active v false a
any_active net step v a x k (suc n) (o ∷ os) l = search (rules, any_active net step v a x (k + 1) n os (omega arith))
any_active net step v a x k _ _ l = omega arith

-- Units in a row take their states in a row.
active_split : (v : ℕ) (us vs : List ArcUnit) (ons : List Bool) {n : ℕ} → length us ≡ n → n ≤ length ons
    → active v (us ++ vs) ons ≡ active v us ons + active v vs (drop n ons)
active_split v [] vs ons {n = zero} l le = omega arith
active_split v (u ∷ us) vs (on ∷ ons) {n = suc n} l le = grind (arith, active_split v us vs ons {n = n})
active_split v _ vs _ l le = absurd (omega arith)

pub cost_split : (us vs : List ArcUnit) (ons : List Bool) {n : ℕ} → length us ≡ n → n ≤ length ons
    → cost_on (us ++ vs) ons ≡ cost_on us ons +ℤ cost_on vs (drop n ons)
cost_split [] vs ons {n = zero} l le = omega integers
cost_split (u ∷ us) vs (on ∷ ons) {n = suc n} l le =
    omega (integers, cost_split us vs ons {n = n} (omega arith) (omega arith))
cost_split _ vs _ l le = absurd (omega arith)

-- The states of the first arc's units, and of the others.
pub first_length : (net : Network) (step : ℕ) (a : Arc) (arcs : List Arc) (x : ℕ) (xs : List ℕ) (ons : List Bool)
    → length ons ≡ length (units net step (a ∷ arcs) (x ∷ xs)) → (cap step a x ≤ length ons)
    × (length (drop (cap step a x) ons) ≡ length (units net step arcs xs))
first_length net step a arcs x xs ons l =
    let whole = simp (length-append, units_length) at l in
    (omega (arith, whole), omega (arith, whole, length-drop (cap step a x) ons))

-- Along the arcs, so many ends for each unit.
abbrev pub weighted_ends : ℕ → Bool → List Arc → List ℕ → ℕ
weighted_ends v on (a ∷ arcs) (j ∷ js) = j * arc_active v on a + weighted_ends v on arcs js
weighted_ends v on _ _ = 0

pub told_active : (net : Network) (step v : ℕ) (arcs : List Arc) (xs : List ℕ) (ons : List Bool)
    → length ons ≡ length (units net step arcs xs) → active v (units net step arcs xs) ons + weighted_ends v false arcs
    (steps_told step arcs xs ons) ≡ weighted_ends v true arcs (steps_told step arcs xs ons) + weighted_ends v false arcs
    (arcwise (cap step) arcs xs)
told_active net step v (a ∷ arcs) (x ∷ xs) ons m =
    let n = cap step a x in
    let ls = first_length net _ a _ x xs _ m in
    let split = active_split v _ (units net step arcs xs) ons (units_length net step a (low step a x) 0 n) ls.0 in
    omega (arith, any_active net step v a x 0 n ons ls.0, told_active net step v arcs xs (drop n ons) ls.1)
told_active net step v _ _ ons m = refl

-- The states of a list of the box tell its steps.
told_states : (step : ℕ) (arcs : List Arc) (xs js ys : List ℕ) → IsRaised step arcs xs js ys
    → steps_told step arcs xs (states step arcs xs js) ≡ js
told_states step (a ∷ arcs) (x ∷ xs) (j ∷ js) (y ∷ ys) box =
    search (rules, run_told, told_states step arcs xs js ys box.2)
told_states step _ _ _ _ box = search rules

pub box_active : (net : Network) (step v : ℕ) (arcs : List Arc) (xs js ys : List ℕ) → IsRaised step arcs xs js ys
    → active v (units net step arcs xs) (states step arcs xs js) + weighted_ends v false
    arcs js ≡ weighted_ends v true arcs js + weighted_ends v false arcs (arcwise (cap step) arcs xs)
box_active net step v arcs xs js ys box = search (rules, told_states, told_active, states_count)

-- A list of the box has the ends of its lows, and a step's worth for each unit.
pub box_ends : (net : Network) (step v : ℕ) (on : Bool) (arcs : List Arc) (xs js ys : List ℕ)
    → IsRaised step arcs xs js ys → weighted_ends v on arcs ys ≡ weighted_ends v on arcs (arcwise (low step) arcs xs)
    + step * weighted_ends v on arcs js
box_ends net step v on (a ∷ arcs) (x ∷ xs) (j ∷ js) (y ∷ ys) box =
    search (rules, add-mul, box_ends net step v on arcs xs js ys box.2)
box_ends net step v on _ _ _ _ box = search (rules, mul_comm step 0, zero-mul step)

-- The sum on one side of a node, along the list.
ends_side : (v y : ℕ) (on : Bool) (es : List End) → total (λ e. cond (is_on_side v on e) (pos y) (pos 0)) es
    ≡ pos (y * count (λ e. cond ((e.node == v) && is_active on e) 1 0) es)
ends_side v y on [] = omega integers
ends_side v y on (e ∷ es) = search (rules, ends_side v y on es)

pub side_list : (v : ℕ) (on : Bool) (arcs : List Arc) (ys : List ℕ) → length ys ≡ length arcs
    → side_sum arcs (entries ys) on v ≡ pos (weighted_ends v on arcs ys)
side_list v on (a ∷ arcs) (y ∷ ys) l = omega (
  integers,
  total_below_prefix (λ k. total (λ e. cond (is_on_side v on e) (entries (y ∷ ys) k) (pos 0))
      (ends (arc_at (a ∷ arcs) k))) (length arcs),
  ends_side v y on (ends a),
  side_list v on arcs ys (omega arith),
)
side_list v on _ _ l = omega integers

-- Balanced lists have equal ends of both signs.
pub balanced_list : (arcs : List Arc) (ys : List ℕ) → length ys ≡ length arcs → IsBalanced arcs (entries ys) → (v : ℕ)
    → weighted_ends v true arcs ys ≡ weighted_ends v false arcs ys
balanced_list arcs ys l balanced v = omega (integers, balanced v, side_list v true _ ys l, side_list v false _ ys l)

pub box_length : (step : ℕ) (arcs : List Arc) (xs js ys : List ℕ) → IsRaised step arcs xs js ys
    → length ys ≡ length arcs
box_length step (a ∷ arcs) (x ∷ xs) (j ∷ js) (y ∷ ys) box = omega (arith, box_length step arcs xs js ys box.2)
box_length step _ _ _ _ box = search rules

-- Two lists of one box differ at a node by a step's worth for each unit.
pub box_sides : (net : Network) (step v : ℕ) (arcs : List Arc) (xs js ys is zs : List ℕ) → IsRaised step arcs xs js ys
    → IsRaised step arcs xs is zs → weighted_ends v true arcs ys + weighted_ends v false arcs zs
    + step * (weighted_ends v false arcs js + weighted_ends v true arcs is) ≡ weighted_ends v false arcs ys
    + weighted_ends v true arcs zs + step * (weighted_ends v true arcs js + weighted_ends v false arcs is)
box_sides net step v arcs xs js ys is zs box other = omega (
  arith,
  mul-add,
  box_ends net step v true arcs xs js ys box,
  box_ends net step v false arcs xs js ys box,
  box_ends net step v true arcs xs is zs other,
  box_ends net step v false arcs xs is zs other,
)

-- Two balanced lists of one box have the same number of active ends at each node.
pub same_active : (net : Network) (step : ℕ) (xs js ys is zs : List ℕ) → 1 ≤ step → IsRaised step net.arcs xs js ys
    → IsRaised step net.arcs xs is zs → IsBalanced net.arcs (entries ys)
    → IsBalanced net.arcs (entries zs) → (v : ℕ) → active v (units net step net.arcs xs) (states step net.arcs xs js)
    ≡ active v (units net step net.arcs xs) (states step net.arcs xs is)
same_active net step xs js ys is zs positive box other by bz v =
    let left = weighted_ends v true net.arcs js + weighted_ends v false net.arcs is in
    let right = weighted_ends v false net.arcs js + weighted_ends v true net.arcs is in
    let one = balanced_list net.arcs ys (box_length step net.arcs xs js ys box) by v in
    let two = balanced_list net.arcs zs (box_length step net.arcs xs is zs other) bz v in
    let scaled_equal : step * left ≡ step * right =
    omega (arith, box_sides net step v net.arcs xs js ys is zs box other) in
    let equal : left ≡ right = sym (mul-div_cancel_left left positive) ∙ (search (rules, mul-div_cancel_left)) in
    omega (arith, box_active net step v net.arcs xs js ys box, box_active net step v net.arcs xs is zs other, equal)

-- The deviation along the list.
abbrev pub deviations : Network → List Arc → List ℕ → ℕ
deviations net (a ∷ arcs) (y ∷ ys) = arc_deviation net a (pos y) + deviations net arcs ys
deviations net _ _ = 0

pub deviation_list : (net : Network) (arcs : List Arc) (ys : List ℕ) → length ys ≡ length arcs
    → count_below (λ k. arc_deviation net (arc_at arcs k) (entries ys k)) (length arcs) ≡ deviations net arcs ys
deviation_list net (a ∷ arcs) (y ∷ ys) l = search (rules, count_below_prefix, deviation_list net arcs ys (omega arith))
deviation_list net _ _ l = omega arith

-- The units of an arc that are on cost the change of its deviation.
run_cost : (net : Network) (step : ℕ) (a : Arc) (x k j n : ℕ) (os : List Bool) → j ≤ n → cost_on (units_from net step a
    (low step a x) k n) (run j n ++ os) +ℤ pos (arc_deviation net a (pos (low step a x + k * step))) ≡ pos
    (arc_deviation net a (pos (low step a x + (k + j) * step)))
run_cost net step a x k zero zero os le = rw (add-zero k) (omega integers)
run_cost net step a x k (suc j) zero os le = absurd (omega arith)
run_cost net step a x k zero (suc n) os le =
    rw (add-zero k) (omega (integers, rw add-zero at (run_cost net step a x (k + 1) zero n os (omega arith))))
run_cost net step a x k (suc j) (suc n) os le =
    let past : k + suc j ≡ k + 1 + j = omega arith in
    rw past (omega (integers, run_cost net step a x (k + 1) j n os (omega arith)))

pub box_cost : (net : Network) (step : ℕ) (arcs : List Arc) (xs js ys : List ℕ) → IsRaised step arcs xs js ys
    → cost_on (units net step arcs xs) (states step arcs xs js) +ℤ pos
    (deviations net arcs (arcwise (low step) arcs xs)) ≡ pos (deviations net arcs ys)
box_cost net step (a ∷ arcs) (x ∷ xs) (j ∷ js) (y ∷ ys) box =
    let n = cap step a x in
    let os = run j n ++ states step arcs xs js in
    let begin : low step a x + 0 * step ≡ low step a x = omega (arith, zero-mul step) in
    let end : low step a x + (0 + j) * step ≡ y = ap (λ n. low step a x + n * step) (zero-add j) ∙ sym box.1 in
    omega (
      integers,
      rw (run_told j n _ box.0).1 at (cost_split _ (units net step arcs xs) os (units_length net step a (low step a x) 0
          n) (simp (length-append, run_length) (omega arith))),
      run_cost net step a x 0 j n (states step arcs xs js) box.0,
      ap (λ k. arc_deviation net a (pos k)) begin,
      ap (λ k. arc_deviation net a (pos k)) end,
      box_cost net step arcs xs js ys box.2,
    )
box_cost net step _ _ _ _ box = search rules

-- The graph law, the matching law and the cost law: a list in the box tells a perfect matching, and no edge is dear.

-- An arc has its ends at nodes, is light and has a floor.
abbrev pub IsFit : ℕ → Arc → Type 0
IsFit nodes a = EndsBelow nodes a.left a.right × (a.weight ≤ 1000) × (1 ≤ a.floor)

pub arcs_fit : (nodes : ℕ) (arcs : List Arc) → IsTrue (list_all (is_bounded nodes) arcs)
    → AllByRecursion (IsFit nodes) arcs
arcs_fit nodes [] h = tt
arcs_fit nodes (a ∷ arcs) h =
    let both = and_parts (is_bounded nodes a) (list_all (is_bounded nodes) arcs) h in
    search (rules, nat_tests, arcs_fit nodes arcs both.1)

-- What holds of the units of each arc that fits holds of all units.
pub units_each : (P : ArcUnit → Type 0) (net : Network) (step : ℕ) → ((a : Arc) (l k : ℕ) → IsFit net.nodes a
    → P (unit_at net step a l k)) → (arcs : List Arc) (xs : List ℕ) → AllByRecursion (IsFit net.nodes) arcs
    → AllByRecursion P (units net step arcs xs)
units_each P net step each (a ∷ arcs) (x ∷ xs) fit = each_append P _ _ (from 0 (cap step a x))
    (units_each P net step each arcs xs fit.1)
  where
    from : (k n : ℕ) → AllByRecursion P (units_from net step a (low step a x) k n)
    from k zero = tt
    from k (suc n) = (each a (low step a x) k fit.0, from (k + 1) n)
units_each P net step each _ _ fit = tt

-- The ends of all units are at nodes.
pub units_at : (net : Network) (step : ℕ) (xs : List ℕ) → IsWithinBounds net
    → UnitsAt net.nodes (units net step net.arcs xs)
units_at net step xs bounds = units_each _ net _ (λ a l k fit. fit.0) _ xs (arcs_fit _ _ bounds.arcs)

-- The matching graph is a graph.
pub graph_law : (net : Network) (step : ℕ) (xs : List ℕ) → IsWithinBounds net → IsGraph (matching_graph net step xs)
graph_law net step xs bounds = graph_lawful _ _ _ _ (units_at _ _ xs bounds)

-- The deviation of a list in the box is that of the lows, and the cost of the units that are on.
pub box_deviation : (net : Network) (step : ℕ) (xs js ys : List ℕ) → length xs ≡ length net.arcs
    → IsRaised step net.arcs xs js ys → cost_on (units net step net.arcs xs) (states step net.arcs xs js)
    ≡ pos (deviation net (entries ys)) -ℤ pos (deviation net (entries (lows net step xs)))
box_deviation net step xs js ys l box =
    let own = deviation_list net net.arcs ys (box_length step net.arcs xs js ys box) in
    let least = deviation_list net net.arcs (lows net step xs) (arcwise_length (low step) net.arcs xs l) in
    omega (integers, box_cost net step net.arcs xs js ys box)

-- The matching law.
pub matching_law : (net : Network) (step : ℕ) (xs js ys : List ℕ) → IsWithinBounds net → 1 ≤ step
    → length xs ≡ length net.arcs → IsAdmissible net (entries xs) → IsAdmissible net (entries ys)
    → IsRaised step net.arcs xs js ys → IsPerfect (matching_graph net step xs) (matching_told net step xs js)
    × (matching_cost (matching_graph net step xs) (matching_told net step xs js) ≡ pos (deviation net (entries ys)) -ℤ
    pos (deviation net (entries (lows net step xs))))
matching_law net step xs js ys bounds positive l ax ay box =
    let us : List ArcUnit = units net _ _ xs in
    let m : ℕ = rim_active us (states_at net step xs) in
    let at = units_at _ _ xs bounds in
    let own = own_box _ _ xs l in
    let count = states_count net _ _ xs js ys box in
    let own_count = states_count net _ _ xs _ xs own in
    let fills = same_active net _ xs js ys _ xs positive box own ay.balanced ax.balanced in
    let parity = rim_parity _ _ us _ _ at count own_count fills (λ v. refl) in
    let fit : StatesFit net.nodes (λ v. active v us (states_at net step xs)) (m % 2 == 1) us
    (states step net.arcs xs js) = search rules in
    (states_perfect fit, states_cost fit ∙ box_deviation net _ xs js ys l box)

-- A length more by d changes the deviation by at most the weight and the scale times d.
deviation_change : (net : Network) (a : Arc) (l d : ℕ) → net.q ≤ 1000 → a.weight ≤ 1000
    → unsigned_abs (pos (arc_deviation net a (pos (l + d))) -ℤ pos (arc_deviation net a (pos l))) ≤ 1000 * (1000 * d)
deviation_change net a l d small light =
    let far : ℕ = unsigned_abs (pos net.q *ℤ pos (l + d) -ℤ pos (net.p * a.old)) in
    let near : ℕ = unsigned_abs (pos net.q *ℤ pos l -ℤ pos (net.p * a.old)) in
    let more : far ≤ near + net.q * d = omega (integers, mul-add net.q l d) in
    let less : near ≤ far + net.q * d = omega (integers, mul-add net.q l d) in
    let most : a.weight * (net.q * d) ≤ 1000 * (1000 * d) = mul-le-mul light (mul-le-mul small (omega arith)) in
    omega (integers, most, mul-le-mul_left a.weight more, mul-le-mul_left a.weight less)

-- The cost law.
pub costs : (net : Network) (step : ℕ) (xs : List ℕ) → IsWithinBounds net → (k : ℕ)
    → k < length (matching_graph net step xs).edges → unsigned_abs (edge_at (matching_graph net step xs) k).cost
    ≤ 1000 * (1000 * step)
costs net step xs bounds k l =
    let us : List ArcUnit = units net _ _ xs in
    let Cheap : ℤ → Type 0 = λ c. unsigned_abs c ≤ 1000 * (1000 * step) in
    let cheap : AllByRecursion (λ u. Cheap u.cost) us = units_each _ net _ (λ a m j fit.
    (let next : m + (j + 1) * step ≡ m + j * step + step = omega (arith, add-mul j 1 step) in
    rw next (deviation_change net a _ _ bounds.q_high fit.1))) _ xs (arcs_fit _ _ bounds.arcs) in
    (All-from_recursion (IsEdge (λ v. Unit {0}) Cheap) _ (graph_edges _ _ (omega arith) _ _ _ us
    (units_at _ _ xs bounds) (λ v h. tt) (All-from_recursion _ us cheap)) k _ l).3
