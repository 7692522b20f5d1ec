-- The whole matching of states: each vertex gets one mate, and the cost is that of the units that are on.
use Rattle.std.proofs.Common.{rules, ◌≡◌, ℕ, zero, suc, ◌+◌, ◌*◌, ◌%◌, ◌<◌, Bool, true, false, cond, ◌==◌, List, ◌∷◌}
use Rattle.std.proofs.Common.{length, map, Option, ℤ, pos, ◌+ℤ◌, refl, ◌∙◌, ◌≢◌, length-append, eq-eqb}
use Rattle.std.proofs.Common.{ne_eqb, mul-zero, mul-add, arith}
use Rattle.def_math.specs.Sums.{total, total_below, span}
use Rattle.sum_laws.proofs.Sums.{total_below_none, total_below_one, total_below_span, total_same, integers, count_total}
use Rattle.def_matching.specs.Matching.{WeightedGraph, IsPerfect, edge_at, ends_at, matching_cost}
use Rattle.def_flow.specs.MatchingGraph.{unit_size, units_links, rim, rim_links, first_fresh, lone_vertex, graph_by}
use Rattle.def_flow.specs.Units.{active, rim_active, cost_on}
use Rattle.gadget_laws.specs.Marks.{trues, places, units_marks, rim_marks, rim_states, states_marks}
use Rattle.gadget_laws.proofs.Pick.{picked, pick_append, chosen_sum, places_rise, at_ends, pairs, IsThere, waiting}
use Rattle.gadget_laws.proofs.{Pick.chain_sum, Pick.rim_length, Units.rim_trues, Edges.picked_free, Edges.rest_free}
use Rattle.gadget_laws.proofs.Units.{held, held_same, UnitsAt, units_weight, units_cost, units_length, states_length}
use Rattle.{def_math.specs.Counts.count, def_math.specs.Counts.count_below}
use Rattle.{def_matching.specs.declared.weighted.WEdge.WEdge, def_flow.specs.declared.units.ArcUnit.ArcUnit}

-- States fit a graph: one for each unit, as many active ends at each node as it has copies, and an even number at
-- the rim with the lone vertex.
pub record StatesFit (nodes : ℕ) (copies_at : ℕ → ℕ) (lone : Bool) (us : List ArcUnit) (ons : List Bool) : Type 0 where
  pub count : length us ≡ length ons
  pub at_nodes : UnitsAt nodes us
  pub fills : (v : ℕ) → active v us ons ≡ copies_at v
  pub even : (cond lone 1 0 + rim_active us ons) % 2 ≡ 0

-- 1 at b, and 0 elsewhere.
abbrev pub only : ℕ → ℕ → ℤ
only b k = pos (cond (k == b) 1 0)

pub only_here : (b : ℕ) → only b b ≡ pos 1
only_here b = rw (eq-eqb b b refl) refl

pub only_there : (b k : ℕ) → k ≢ b → only b k ≡ pos 0
only_there b k ne = rw (ne_eqb k b ne) refl

pub only_total : (n b : ℕ) → b < n → total_below (only b) n ≡ pos 1
only_total n b l = total_below_one (only b) n b l (λ k lk ne. only_there b k ne) ∙ only_here b

-- All copies weigh what the numbers below their count weigh.
copies_weight : (w : ℕ → ℤ) (copies_at : ℕ → ℕ) (nodes : ℕ) → held nodes copies_at w copies_at
    ≡ total_below w (count_below copies_at nodes)
copies_weight w copies_at zero = refl
copies_weight w copies_at (suc n) =
    omega (integers, copies_weight w copies_at n, total_below_span w (count_below copies_at n) (copies_at n))

-- At units that fill all copies, these and the units' vertices get one mate each, but for those at the rim that wait.
filled_weight : (w : ℕ → ℤ) (nodes : ℕ) (copies_at : ℕ → ℕ) (us : List ArcUnit) (ons : List Bool) → length us
    ≡ length ons → UnitsAt nodes us → ((v : ℕ) → active v us ons ≡ copies_at v) → picked (at_ends w)
    (units_marks copies_at (λ v. 0) us ons) (units_links copies_at (count_below copies_at nodes) us) +ℤ picked w
    (rim_states us ons) (rim (count_below copies_at nodes) us) ≡ total_below w (count_below copies_at nodes) +ℤ span w
    (count_below copies_at nodes) (count unit_size us)
filled_weight w nodes copies_at us ons l at fills = omega (
  integers,
  units_weight w nodes copies_at (λ v. 0) (count_below copies_at nodes) us ons l at (λ v. omega (arith, fills v)),
  total_below_none (λ v. pos 0) nodes (λ v lv. refl),
  held_same nodes copies_at w (λ v. 0 + active v us ons) copies_at (λ v lv. omega (arith, fills v)),
  copies_weight w copies_at nodes,
)

-- The vertices below the bound, in their four groups.
graph_total : (w : ℕ → ℤ) (nodes : ℕ) (copies_at : ℕ → ℕ) (lone : Bool) (us : List ArcUnit)
    → total_below w (graph_by nodes copies_at lone us).n
    ≡ ((total_below w (count_below copies_at nodes) +ℤ span w (count_below copies_at nodes) (count unit_size us)) +ℤ
    waiting w (lone_vertex nodes copies_at lone us) lone) +ℤ span w (first_fresh nodes copies_at lone us)
    (pairs (length (rim (count_below copies_at nodes) us)))
graph_total w nodes copies_at lone us = let copies = count_below copies_at nodes in search (rules, total_below_span)

-- There are as many marks as edges.
pub marks_length : (nodes : ℕ) (copies_at : ℕ → ℕ) (lone : Bool) (us : List ArcUnit) (ons : List Bool) → length us
    ≡ length ons → length (states_marks nodes copies_at lone us ons) ≡ length (graph_by nodes copies_at lone us).edges
marks_length nodes copies_at lone us ons same = search (rules, length-append, units_length, rim_length, states_length)

module _ {nodes : ℕ} {copies_at : ℕ → ℕ} {lone : Bool} {us : List ArcUnit} {ons : List Bool}
    (fit : StatesFit nodes copies_at lone us ons) where
  -- The graph and its rim, and the marks of its edges.
  abbrev g : WeightedGraph
  g = graph_by nodes copies_at lone us

  abbrev marks : List Bool
  marks = states_marks nodes copies_at lone us ons

  abbrev copies : ℕ
  copies = count_below copies_at nodes

  abbrev before : Option ℕ
  before = lone_vertex nodes copies_at lone us

  abbrev fresh : ℕ
  fresh = first_fresh nodes copies_at lone us

  -- The sum along the marked edges, at the units and at the rim.
  marked : (f : WEdge → ℤ) → total f (map (edge_at g) (places 0 marks))
      ≡ picked f (units_marks copies_at (λ v. 0) us ons) (units_links copies_at copies us) +ℤ picked f
      (rim_marks before lone fresh (rim_states us ons)) (rim_links before fresh (rim copies us))
  marked f = search (rules, chosen_sum, marks_length, pick_append, units_length)

  -- The places of the marks are a perfect matching: for each weight the ends of its edges weigh what all vertices do.
  pub states_perfect : IsPerfect (graph_by nodes copies_at lone us)
      (places 0 (states_marks nodes copies_at lone us ons))
  states_perfect =
      let there : (o : Bool) → IsThere (lone_vertex nodes copies_at o us) o = elim [ true ↦ tt | false ↦ refl ] in
      record {
        increasing = search (rules, places_rise, marks_length);
        once = λ v l. omega (
          integers,
          count_total (ends_at v) (map (edge_at g) (places 0 marks)),
          total_same (λ e. pos (ends_at v e)) (at_ends (only v)) (map (edge_at g) (places 0 marks))
              (λ e. omega integers),
          marked (at_ends (only v)),
          filled_weight (only v) nodes copies_at us ons fit.count fit.at_nodes fit.fills,
          chain_sum (only v) before lone fresh (rim copies us) (rim_states us ons)
              (states_length copies us ons fit.count) (there lone) (omega (arith, rim_trues us ons, fit.even)),
          graph_total (only v) nodes copies_at lone us,
          only_total g.n v l,
        );
      }

  -- Its cost is that of the units that are on.
  pub states_cost : matching_cost (graph_by nodes copies_at lone us)
      (places 0 (states_marks nodes copies_at lone us ons)) ≡ cost_on us ons
  states_cost = search (rules, marked, units_cost, picked_free, rest_free)

-- Where all weigh n, so do the picked ones.
picked_all : {X : Type 0} (n : ℕ) (ms : List Bool) (xs : List X) → length ms ≡ length xs → picked (λ x. pos n) ms xs
    ≡ pos (n * trues ms)
picked_all n (m ∷ ms) (x ∷ xs) l =
    search (rules, integers, mul-add n 1 (trues ms), picked_all n ms xs (omega arith))
picked_all n _ _ l = omega (integers, mul-zero n)

-- States that fill the same copies have as many active units at the rim, but for an even number.
pub rim_parity : (nodes : ℕ) (copies_at : ℕ → ℕ) (us : List ArcUnit) (ons other : List Bool) → UnitsAt nodes us
    → length us ≡ length ons → length us ≡ length other → ((v : ℕ) → active v us ons ≡ copies_at v)
    → ((v : ℕ) → active v us other ≡ copies_at v) → rim_active us ons % 2 ≡ rim_active us other % 2
rim_parity nodes copies_at us ons other at l m fills fills_other =
    let same : 2 * twos ons + rim_active us ons ≡ 2 * twos other + rim_active us other =
    omega (integers, two ons l fills, two other m fills_other) in omega (arith, same)
  where
    twos : List Bool → ℕ
    twos xs = trues (units_marks copies_at (λ v. 0) us xs)

    two : (xs : List Bool) → length us ≡ length xs → ((v : ℕ) → active v us xs ≡ copies_at v)
        → pos (2 * twos xs) +ℤ pos (rim_active us xs) ≡ total_below (λ v. pos 1) (count_below copies_at nodes) +ℤ span
        (λ v. pos 1) (count_below copies_at nodes) (count unit_size us)
    two xs lx fx = omega (
      integers,
      filled_weight (λ v. pos 1) _ copies_at us xs lx at fx,
      picked_all 2 _ (units_links copies_at (count_below copies_at nodes) us) (units_length _ (λ v. 0) _ us xs lx),
      picked_all 1 (rim_states us xs) _ (states_length (count_below copies_at nodes) us xs lx),
      rim_trues us xs,
    )
