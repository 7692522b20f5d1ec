-- A perfect matching tells states of the units that fill the copies, at its own cost.
use Rattle.std.proofs.Common.{rules, ◌≡◌, ◌≢◌, ℕ, zero, suc, ◌+◌, ◌*◌, ◌<◌, ◌≤◌, min, Bool, cond, not, ◌&&◌, ◌==◌}
use Rattle.std.proofs.Common.{nat_lt, List, [], ◌∷◌, length, map, drop, Option, Some, None, option_to_list, ℤ, pos}
use Rattle.std.proofs.Common.{◌+ℤ◌, ◌-ℤ◌, ◌*ℤ◌, refl, subst, sym, ◌∙◌, ap, inl, inr, zero-add, eq-eqb, ne_eqb}
use Rattle.std.proofs.lemmas.Bool.{cases_eq, cases_lt, cases_Bool}
use Rattle.def_math.specs.{Sums.total, Sums.total_below, Counts.count, Counts.count_below, Increasing.IsIncreasing}
use Rattle.def_matching.specs.Matching.{WeightedGraph, IsPerfect, edge_at, matching_cost}
use Rattle.def_flow.specs.MatchingGraph.{are_alike, links_by, size_by, unit_links, unit_size, units_links, rim}
use Rattle.def_flow.specs.MatchingGraph.{rim_links, first_fresh, lone_vertex, graph_by}
use Rattle.def_flow.specs.{Network.EndsBelow, declared.net.End.End, declared.units.ArcUnit.ArcUnit}
use Rattle.def_flow.specs.Units.{is_active, active, cost_on}
use Rattle.gadget_laws.specs.Told.{past, marks_from, width_by, state_told, states_told}
use Rattle.gadget_laws.proofs.Pick.{picked, chosen_sum, at_ends, pick_split, pick_units, no_pick, left_marks}
use Rattle.gadget_laws.proofs.Pick.{right_marks, inner_mark, right_worth, unit_pick}
use Rattle.gadget_laws.proofs.Edges.{copies_below, with_each, rim_each, picked_zero, picked_free, unit_edges}
use Rattle.gadget_laws.proofs.Edges.{units_edges, rest_edges, rest_free, graph_lawful}
use Rattle.gadget_laws.proofs.Whole.{only, only_here, only_there, only_total}
use Rattle.{std.proofs.Common.arith, sum_laws.proofs.Sums.total_below_minus, sum_laws.proofs.Sums.integers}
use Rattle.{def_matching.specs.declared.weighted.WEdge.WEdge, gadget_laws.specs.Marks.places}
use Rattle.{gadget_laws.proofs.Units.ends_active, gadget_laws.proofs.Units.UnitsAt, std.specs.List.AllByRecursion}
use Rattle.{qm_dual.proofs.Gathered.ends_once, qm_dual.proofs.Weak.chosen_below}

-- Whether the inner edge is marked of a unit in this state.
abbrev inner_told : (on : Bool) (left : End) (right : Option End) → Bool
inner_told on left None = not (is_active on left)
inner_told on left (Some right) = are_alike left right && not (is_active on left)

-- A unit's marks are those of the state that they tell.
record IsTold (copies_at : ℕ → ℕ) (ms : List Bool) (left : End) (right : Option End) : Type 0 where
  first : left_marks copies_at ms left ≡ cond (is_active (state_told copies_at ms left) left) 1 0
  second : right_marks copies_at ms left right
      ≡ count (λ e. cond (is_active (state_told copies_at ms left) e) 1 0) (option_to_list right)
  inner : inner_mark copies_at ms left right ≡ inner_told (state_told copies_at ms left) left right

abbrev AreTold : (ℕ → ℕ) → List ArcUnit → List Bool → Type 0
AreTold copies_at [] ms = Unit {0}
AreTold copies_at (u ∷ us) ms =
    IsTold copies_at ms u.left u.right × AreTold copies_at us (drop (width_by copies_at u.left u.right) ms)

-- What marks that weigh 1 together are, by what the edges of each end weigh.
mates : (l r a c : ℕ) (i : Bool) (t : ℤ) {p x : ℤ} → p ≡ pos a → t ≡ pos c → x ≡ pos 1
    → pos l *ℤ p +ℤ (pos r *ℤ t +ℤ cond i x (pos 0)) ≡ pos 1 → l * a + (r * c + cond i 1 0) ≡ 1
mates l r a c i t ep et ex e = grind (integers)

-- The inner edge of a unit weighs 1 where one of its ends does and the other weighs nothing.
inner_one : (b : ℕ) → (only b b +ℤ only b (b + 1) ≡ pos 1) × (only (b + 1) b +ℤ only (b + 1) (b + 1) ≡ pos 1)
inner_one b = search rules

module _ (n nodes : ℕ) (copies_at : ℕ → ℕ) (m : ℕ) (within : m ≤ n) where
  -- The marks of a unit whose edges weigh 1 together for a weight that is 1 at d alone.
  weigh : (b d : ℕ) (c : ℤ) (left : End) (right : Option End) (ms : List Bool) (p t : ℕ) → EndsBelow nodes left right
      → count_below copies_at nodes ≤ d → only d b ≡ pos p → right_worth (λ u z e. only d u) b c left right ≡ pos t
      → only d b +ℤ only d (b + 1) ≡ pos 1 → picked (at_ends (only d)) ms (links_by copies_at b c left right) ≡ pos 1
      → left_marks copies_at ms left * p + (right_marks copies_at ms left right * t
      + cond (inner_mark copies_at ms left right) 1 0) ≡ 1
  weigh b d c left right ms p t at le first second inner one = mates _ _ p t _ _ first second inner
      (sym (unit_pick _ _ copies_at (λ u z e. only d u) (λ u z e l i li. search (rules, copies_below, only_there)) b c _
      _ ms at) ∙ one)

  -- Where each own vertex of a unit has one mate, its marks are those of a state.
  unit_told : (b : ℕ) (c : ℤ) (left : End) (right : Option End) (ms : List Bool) → EndsBelow nodes left right
      → count_below copies_at nodes ≤ b → picked (at_ends (only b)) ms (links_by copies_at b c left right) ≡ pos 1
      → (size_by left right ≡ 2 → right ≢ None
      → picked (at_ends (only (b + 1))) ms (links_by copies_at b c left right) ≡ pos 1) → IsTold copies_at ms left right
  unit_told b c left None ms at le one two =
      let mate = weigh b b c _ None ms 1 0 at le (only_here b) refl (inner_one b).0 one in search rules
  unit_told b c left (Some right) ms at le one two =
      elim (cases_Bool (are_alike left right)) [
        | inl e ↦
            let mate = weigh b b c _ (Some right) ms 1 0 at le (only_here b)
            (rw e (only_there b _ (λ q. omega arith))) (inner_one b).0 one in
            let other = weigh b _ c _ (Some right) ms 0 1 at (omega arith) (only_there _ b (λ q. omega arith))
            (rw e (only_here _)) (inner_one b).1 (two (rw e refl) (λ q. cc)) in
            search rules
        | inr e ↦
            let mate = weigh b b c _ (Some right) ms 1 1 at le (only_here b) (rw e (only_here b)) (inner_one b).0 one in
            search rules
      ]

  -- For each weight of nothing below b, at the rim and from m on, the edges of the units from b on weigh what all
  -- vertices do.
  abbrev IsFull : ℕ → List ArcUnit → List Bool → Type 0
  IsFull b us ms = (w : ℕ → ℤ) → ((k : ℕ) → k < b → w k ≡ pos 0) → AllByRecursion (λ r. w r ≡ pos 0) (rim b us)
      → ((k : ℕ) → m ≤ k → w k ≡ pos 0) → picked (at_ends w) ms (units_links copies_at b us) ≡ total_below w n

  -- The first unit has one mate at each of its vertices, but for the one at the rim.
  first_unit : (b d : ℕ) (u : ArcUnit) (us : List ArcUnit) (ms : List Bool) → UnitsAt nodes us
      → count_below copies_at nodes ≤ b → b ≤ d → d < b + unit_size u → b + count unit_size (u ∷ us) ≤ m → (u.right
      ≡ None → d ≢ b + 1) → IsFull b (u ∷ us) ms → picked (at_ends (only d)) ms (unit_links copies_at b u) ≡ pos 1
  first_unit b d u us ms at le low high fits inside full =
      let off = only_there d in
      omega (
        integers,
        full (only d) (λ k l. off k (λ e. omega arith))
            (with_each _ _ _ _ (λ none. off (b + 1) (λ e. inside none (sym e)))
            (rim_each _ _ us (λ k l h. off k (λ e. omega arith)))) (λ k l. off k (λ e. omega arith)),
        pick_units (at_ends (only d)) copies_at b u us ms,
        picked_zero (only d) (drop (width_by copies_at u.left u.right) ms) (units_links copies_at (b + unit_size u) us)
            (units_edges (λ k. only d k ≡ pos 0) (λ c. Unit {0}) tt nodes copies_at (λ k l. off k (λ e. omega arith))
            (b + unit_size u) us at (omega arith) (λ k l h. off k (λ e. omega arith)) (λ k e l. tt)),
        only_total n d (omega arith),
      )

  -- The marks of all units are those of states.
  units_told : (b : ℕ) (us : List ArcUnit) (ms : List Bool) → UnitsAt nodes us → count_below copies_at nodes ≤ b
      → b + count unit_size us ≤ m → IsFull b us ms → AreTold copies_at us ms
  units_told b [] ms at le fits full = tt
  units_told b (u ∷ us) ms at le fits full = (
    unit_told b u.cost u.left u.right ms at.0 le (search (rules, first_unit)) (search (rules, first_unit)),
    search (
      rules,
      units_told (b + unit_size u) us (drop (width_by copies_at u.left u.right) ms) at.1 (omega arith)
          (omega arith) (λ w low nil high. omega (
            integers,
            full w (λ k l. low k (omega arith)) (with_each (λ r. w r ≡ pos 0) u.right (b + 1) (rim (b + unit_size u) us)
                (λ none. low (b + 1) (rw none (omega arith))) nil) high,
            pick_units (at_ends w) copies_at b u us ms,
            picked_zero w ms (unit_links copies_at b u) (unit_edges (λ k. w k ≡ pos 0) (λ c. Unit {0}) tt nodes
                copies_at (λ k l. low k (omega arith)) b u.cost u.left u.right at.0 le (λ k l h. low k h) tt),
          )),
    ),
  )

marks_length : (k n : ℕ) (m : List ℕ) → length (marks_from k n m) ≡ n
marks_length k zero m = refl
marks_length k (suc n) [] = omega (arith, marks_length (k + 1) n [])
marks_length k (suc n) (e ∷ m) = omega (arith, marks_length (k + 1) n (past (e == k) e m))

-- The places of the marks of an increasing list are the list.
places_marks : (k n : ℕ) (m : List ℕ) → IsIncreasing k (k + n) m → places k (marks_from k n m) ≡ m
places_marks k zero [] increasing = refl
places_marks k zero (e ∷ m) increasing = absurd (omega (arith, increasing.0, increasing.1))
places_marks k (suc n) [] increasing = places_marks (k + 1) n [] tt
places_marks k (suc n) (e ∷ m) increasing =
    let high : k + suc n ≡ k + 1 + n = omega arith in
    elim (cases_eq e k) [
      | inl here ↦
          let rest = subst (λ (h : ℕ). IsIncreasing (k + 1) h m) high (rw here at increasing.2) in
          rw (eq-eqb e k here) (ap (λ l. k ∷ l) (places_marks (k + 1) n m rest) ∙ ap (λ j. j ∷ m) (sym here))
      | inr later ↦ rw (ne_eqb e k later) (places_marks (k + 1) n (e ∷ m)
          (omega (arith, increasing.0), omega (arith, increasing.1), rw high at increasing.2))
    ]

-- A weight that is 1 at the copies of node v and 0 elsewhere.
abbrev at_copies : (ℕ → ℕ) → ℕ → ℕ → ℤ
at_copies copies_at v k = pos (cond (nat_lt k (count_below copies_at v + copies_at v)) 1 0) -ℤ pos
    (cond (nat_lt k (count_below copies_at v)) 1 0)

less_total : (a n : ℕ) → total_below (λ k. pos (cond (nat_lt k a) 1 0)) n ≡ pos (min n a)
less_total a zero = omega integers
less_total a (suc n) = grind (integers, cases_lt n a, less_total a n)

-- So many marks, each worth 1 or nothing.
marked : (n : ℕ) (x : ℤ) (h a : Bool) → n ≡ cond a 1 0 → x ≡ pos (cond h 1 0) → pos n *ℤ x ≡ pos (cond (h && a) 1 0)
marked n x h a e f = rw (e, f) (grind integers)

inner_none : (i : Bool) (x : ℤ) → x ≡ pos 0 → cond i x (pos 0) ≡ pos 0
inner_none i x e = grind integers

module _ (nodes : ℕ) (copies_at : ℕ → ℕ) (v : ℕ) (w : ℕ → ℤ) (copy : (u i : ℕ) → i < copies_at u
    → w (count_below copies_at u + i) ≡ pos (cond (u == v) 1 0)) where
  -- An edge to a copy of the node weighs 1, beside its other end.
  abbrev hit : ℕ → ℤ → End → ℤ
  hit u d e = w u +ℤ pos (cond (e.node == v) 1 0)

  -- The copies of node v that a unit takes are its active ends there.
  right_copies : (b : ℕ) (c : ℤ) (left : End) (right : Option End) (ms : List Bool) → w b ≡ pos 0 → w (b + 1) ≡ pos 0
      → IsTold copies_at ms left right → pos (right_marks copies_at ms left right) *ℤ right_worth hit b c left right
      ≡ pos (count (λ e. cond ((e.node == v) && is_active (state_told copies_at ms left) e) 1 0) (option_to_list right))
  right_copies b c left None ms one two told = omega integers
  right_copies b c left (Some right) ms one two told = omega (
    integers,
    marked (right_marks copies_at ms left (Some right))
        (right_worth hit b c left (Some right)) (right.node == v) (is_active (state_told copies_at ms left) right)
        (omega (arith, told.second)) (search rules),
  )

  unit_copies : (b : ℕ) (c : ℤ) (left : End) (right : Option End) (ms : List Bool) → EndsBelow nodes left right → w b
      ≡ pos 0 → w (b + 1) ≡ pos 0 → IsTold copies_at ms left right → picked (at_ends w) ms
      (links_by copies_at b c left right) ≡ pos (ends_active v (state_told copies_at ms left) left right)
  unit_copies b c left right ms at one two told = omega (
    integers,
    unit_pick (at_ends w) nodes copies_at hit (λ u d e l i li. omega (integers, copy e.node i li)) b c left right ms at,
    marked (left_marks copies_at ms left) (hit b c left) (left.node == v)
        (is_active (state_told copies_at ms left) left) told.first (omega (integers, one)),
    right_copies b c left right ms one two told,
    inner_none (inner_mark copies_at ms left right) (w b +ℤ w (b + 1)) (omega (integers, one, two)),
  )

  units_copies : (b : ℕ) (us : List ArcUnit) (ms : List Bool) → UnitsAt nodes us → ((k : ℕ) → b ≤ k → w k ≡ pos 0)
      → AreTold copies_at us ms → picked (at_ends w) ms (units_links copies_at b us)
      ≡ pos (active v us (states_told copies_at us ms))
  units_copies b [] ms at none told = no_pick (at_ends w) ms
  units_copies b (u ∷ us) ms at none told =
      let first = unit_copies b u.cost u.left u.right ms at.0 (none b (omega arith)) (none _ (omega arith)) told.0 in
      let rest = units_copies (b + unit_size u) us (drop (width_by copies_at u.left u.right) ms) at.1
      (λ k l. none k (omega arith)) told.1 in
      omega (integers, pick_units (at_ends w) copies_at b u us ms)

-- An active end costs c where it is a plus end, and the inner edge where it is not active and a minus end.
lone_cost : (n : ℕ) (i : Bool) (c : ℤ) (p o : Bool) → n ≡ cond (cond p o (not o)) 1 0 → i ≡ not (cond p o (not o))
    → pos n *ℤ cond p c (pos 0) +ℤ cond i (cond p (pos 0) c) (pos 0) ≡ cond o c (pos 0)
lone_cost n i c p o e f = rw (e, f) (grind integers)

pair_cost : (n k : ℕ) (i : Bool) (c : ℤ) (p q o : Bool) → n ≡ cond (cond p o (not o)) 1 0
    → k ≡ cond (cond q o (not o)) 1 0 → i ≡ (cond p q (not q) && not (cond p o (not o)))
    → pos n *ℤ cond p c (pos 0) +ℤ (pos k *ℤ cond (cond p q (not q)) (cond q (pos 0) (pos 0)) (cond q c (pos 0)) +ℤ cond
    i (cond p (pos 0) c) (pos 0)) ≡ cond o c (pos 0)
pair_cost n k i c p q o e f g = rw (e, f, g) (grind integers)

-- A unit costs its cost where it is on.
unit_cost_told : (nodes : ℕ) (copies_at : ℕ → ℕ) (b : ℕ) (c : ℤ) (left : End) (right : Option End) (ms : List Bool)
    → EndsBelow nodes left right → IsTold copies_at ms left right
    → picked (λ e. e.cost) ms (links_by copies_at b c left right) ≡ cond (state_told copies_at ms left) c (pos 0)
unit_cost_told nodes copies_at b c left None ms at told = omega (
  integers,
  unit_pick (λ e. e.cost) _ copies_at _ (λ u d e l i li. refl) b c left None ms at,
  lone_cost _ _ c left.plus _ told.first told.inner,
)
unit_cost_told nodes copies_at b c left (Some right) ms at told = unit_pick _ _ copies_at _ (λ u d e l i li. refl) b c _
    (Some right) ms at ∙ pair_cost _ _ _ c _ _ _ told.first (omega (arith, told.second)) told.inner

units_cost_told : (nodes : ℕ) (copies_at : ℕ → ℕ) (b : ℕ) (us : List ArcUnit) (ms : List Bool) → UnitsAt nodes us
    → AreTold copies_at us ms → picked (λ e. e.cost) ms (units_links copies_at b us)
    ≡ cost_on us (states_told copies_at us ms)
units_cost_told nodes copies_at b [] ms at told = no_pick (λ (e : WEdge). e.cost) ms
units_cost_told nodes copies_at b (u ∷ us) ms at told =
    let rest = units_cost_told nodes copies_at (b + unit_size u) us (drop (width_by copies_at u.left u.right) ms) in
    search (rules, integers, pick_units, unit_cost_told, rest)

pub told_length : (copies_at : ℕ → ℕ) (us : List ArcUnit) (ms : List Bool) → length (states_told copies_at us ms)
    ≡ length us
told_length copies_at [] ms = refl
told_length copies_at (u ∷ us) ms =
    omega (arith, told_length copies_at us (drop (width_by copies_at u.left u.right) ms))

module _ (nodes : ℕ) (copies_at : ℕ → ℕ) (lone : Bool) (us : List ArcUnit) (at : UnitsAt nodes us) (m : List ℕ)
    (perfect : IsPerfect (graph_by nodes copies_at lone us) m) where
  -- The graph, its copies, what is marked of its edges, and the edges at the rim.
  abbrev g : WeightedGraph
  g = graph_by nodes copies_at lone us

  abbrev copies : ℕ
  copies = count_below copies_at nodes

  abbrev ms : List Bool
  ms = marks_from 0 (length g.edges) m

  abbrev rest : List WEdge
  rest = rim_links (lone_vertex nodes copies_at lone us) (first_fresh nodes copies_at lone us) (rim copies us)

  abbrev rms : List Bool
  rms = drop (length (units_links copies_at copies us)) ms

  -- The sum along the matching, at the units and at the rim.
  matched : (f : WEdge → ℤ) → total f (map (edge_at g) m)
      ≡ picked f ms (units_links copies_at copies us) +ℤ picked f rms rest
  matched f =
      let same = places_marks 0 (length g.edges) m (rw (zero-add (length g.edges)) perfect.increasing) in
      search (rules, chosen_sum, marks_length, pick_split)

  -- For each weight of nothing at the rim and past the units, the ends at the units weigh what all vertices weigh.
  ends_weight : (w : ℕ → ℤ) → AllByRecursion (λ r. w r ≡ pos 0) (rim copies us) → ((k : ℕ) → copies + count unit_size us
      ≤ k → w k ≡ pos 0) → picked (at_ends w) ms (units_links copies_at copies us) ≡ total_below w g.n
  ends_weight w nil high = omega (
    integers,
    matched (at_ends w),
    ends_once _ _ w _ _ (chosen_below g (graph_lawful _ _ _ us at) 0 m perfect.increasing) perfect.once,
    picked_zero w rms rest (rest_edges _ _ tt _ _ _ us nil (λ k l h. high k l)),
  )

  all_told : AreTold copies_at us ms
  all_told = units_told g.n nodes copies_at (copies + count unit_size us) (omega arith) copies us ms at (omega arith)
      (omega arith) (λ w low nil high. ends_weight w nil high)

  -- The states that it tells fill the copies.
  pub told_fills : (v : ℕ) → v < nodes → active v us (states_told copies_at us ms) ≡ copies_at v
  told_fills v l =
      let none : (k : ℕ) → copies ≤ k → at_copies copies_at v k ≡ pos 0 = search (rules, copies_below) in
      omega (
        integers,
        units_copies _ _ v (at_copies copies_at v) (search (rules, copies_below)) copies us ms at none all_told,
        ends_weight _ (rim_each _ _ us (λ k lk h. none k (omega arith))) (λ k lk. none k (omega arith)),
        copies_below copies_at v _ l,
        total_below_minus (λ k. pos (cond (nat_lt k (count_below copies_at v + copies_at v)) 1 0))
            (λ k. pos (cond (nat_lt k (count_below copies_at v)) 1 0)) g.n,
        less_total (count_below copies_at v + copies_at v) g.n,
        less_total (count_below copies_at v) g.n,
      )

  -- Its cost is that of the units that are on.
  pub told_cost : matching_cost g m ≡ cost_on us (states_told copies_at us ms)
  told_cost = search (rules, matched, picked_free, rest_free, units_cost_told, all_told)
