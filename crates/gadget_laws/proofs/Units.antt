-- What is picked at units: the edges of their own vertices, and copies that they take.
use Rattle.std.proofs.Common.{rules, ◌≡◌, ℕ, ◌+◌, ◌<◌, ◌≤◌, Bool, true, false, cond, not, ◌&&◌, ◌==◌, [], ◌∷◌, ◌++◌}
use Rattle.std.proofs.Common.{length, Option, Some, None, option_to_list, ℤ, pos, ◌+ℤ◌, refl, sym, ◌∙◌, List}
use Rattle.std.proofs.Common.{ne_eqb, inl, inr, length-append, arith}
use Rattle.sum_laws.proofs.Sums.{total_below_same, total_below_sum, total_below_one, span_sum, integers}
use Rattle.def_flow.specs.MatchingGraph.{to_copies, inner_link, are_alike, links_by, size_by, unit_size, units_links}
use Rattle.def_flow.specs.{MatchingGraph.with_rim, MatchingGraph.rim, Network.EndsBelow, declared.net.End.End}
use Rattle.def_flow.specs.Units.{is_active, active, active_at, rim_active, cost_on}
use Rattle.gadget_laws.specs.Marks.{take_end, end_marks, marks_by, trues, units_marks, with_state, rim_states}
use Rattle.gadget_laws.proofs.Pick.{picked, pick_append, end_value, pick_end, end_length, choice_length, fan_length}
use Rattle.def_math.specs.{Sums.total_below, Sums.span, Counts.count, Counts.count_below}
use Rattle.{std.proofs.lemmas.Bool.cases_Bool, def_flow.specs.declared.units.ArcUnit.ArcUnit}
use Rattle.{gadget_laws.proofs.Pick.at_ends, def_matching.specs.declared.weighted.WEdge.WEdge}
use Rattle.std.specs.List.{AllByRecursion}

-- What the copies in use weigh.
abbrev pub held : ℕ → (ℕ → ℕ) → (ℕ → ℤ) → (ℕ → ℕ) → ℤ
held nodes copies_at w used = total_below (λ v. span w (count_below copies_at v) (used v)) nodes

pub held_same : (nodes : ℕ) (copies_at : ℕ → ℕ) (w : ℕ → ℤ) (used other : ℕ → ℕ)
    → ((v : ℕ) → v < nodes → used v ≡ other v) → held nodes copies_at w used ≡ held nodes copies_at w other
held_same nodes copies_at w used other same = search (rules, total_below_same)

-- An active end takes one copy of its node.
pub held_end : (nodes : ℕ) (copies_at : ℕ → ℕ) (w : ℕ → ℤ) (used : ℕ → ℕ) (some : Bool) (e : End) → e.node < nodes
    → held nodes copies_at w (take_end used some e) ≡ held nodes copies_at w used +ℤ cond some
    (w (count_below copies_at e.node + used e.node)) (pos 0)
held_end nodes copies_at w used some e l =
    let old : ℕ → ℤ = λ v. span w (count_below copies_at v) (used v) in
    let new : ℕ → ℤ = λ v. cond ((e.node == v) && some) (w (count_below copies_at v + used v)) (pos 0) in
    let parts : held nodes copies_at w (take_end used some e) ≡ total_below (λ v. old v +ℤ new v) nodes
    = total_below_same _ _ nodes (λ v lv. grind (integers, span_sum w (count_below copies_at v) (used v))) in
    let single : total_below new nodes ≡ new e.node =
    total_below_one new nodes e.node l (λ v lv ne. rw (ne_eqb e.node v (λ q. ne (sym q))) refl) in
    search (rules, total_below_sum)

-- How many active ends a unit has at a node, by its ends.
abbrev pub ends_active : ℕ → Bool → End → Option End → ℕ
ends_active v on left right = count (λ e. cond ((e.node == v) && is_active on e) 1 0) (left ∷ option_to_list right)

module _ (f : WEdge → ℤ) (copies_at used : ℕ → ℕ) (b : ℕ) (c : ℤ) (on : Bool) (left : End) where
  -- The copies in use past the first end.
  abbrev next : ℕ → ℕ
  next = take_end used (is_active on left) left

  -- What is picked at a unit, by its shape.
  abbrev pub unit_value : Option End → ℤ
  unit_value None = end_value f copies_at used (is_active on left) b c left +ℤ cond
      (not (is_active on left)) (f (inner_link b c left)) (pos 0)
  unit_value (Some right) = cond (are_alike left right) (end_value f copies_at used (is_active on left) b c left +ℤ
      (end_value f copies_at next (is_active on right) (b + 1) (pos 0) right +ℤ cond (not (is_active on left))
      (f (inner_link b c left)) (pos 0))) (end_value f copies_at used (is_active on left) b c left +ℤ
      end_value f copies_at next (is_active on right) b c right)

  first_picked : (right : Option End) (ns : List Bool) (es : List WEdge)
      → ((v : ℕ) → used v + ends_active v on left right ≤ copies_at v)
      → picked f (end_marks copies_at used (is_active on left) left ++ ns) (to_copies copies_at b c left ++ es)
      ≡ end_value f copies_at used (is_active on left) b c left +ℤ picked f ns es
  first_picked right ns es free = search (rules, pick_append, end_length, pick_end)

  pub pick_unit : (right : Option End) → ((v : ℕ) → used v + ends_active v on left right ≤ copies_at v)
      → picked f (marks_by copies_at used on left right) (links_by copies_at b c left right) ≡ unit_value right
  pick_unit None free =
      omega (integers, first_picked None (not (is_active on left) ∷ []) (inner_link b c left ∷ []) free)
  pick_unit (Some right) free =
      let second = end_marks copies_at next (is_active on right) right in
      let found : is_active on right ≡ true → next right.node < copies_at right.node =
      λ active. grind (arith, free right.node) in
      elim (cases_Bool (are_alike left right)) [
        | inl e ↦ rw e (omega (
          integers,
          first_picked (Some right) (second ++ not (is_active on left) ∷ [])
              (to_copies copies_at (b + 1) (pos 0) right ++ inner_link b c left ∷ []) free,
          pick_append f _ (not (is_active on left) ∷ []) _
              (inner_link b c left ∷ []) (end_length copies_at next (is_active on right) right (b + 1) (pos 0)),
          pick_end f copies_at next (is_active on right) right (b + 1) (pos 0) found,
        ))
        | inr e ↦ rw e (omega (
          integers,
          first_picked (Some right) second (to_copies copies_at b c right) free,
          pick_end f copies_at next (is_active on right) right b c found,
        ))
      ]

-- What a unit's vertices p and q weigh, and the copies x and y, by the signs l and r of its ends.
lone_weight : (a : Bool) (p q x : ℤ) → cond a (p +ℤ x) (pos 0) +ℤ (cond (not a) (p +ℤ q) (pos 0) +ℤ cond a q (pos 0))
    ≡ p +ℤ (q +ℤ cond a x (pos 0))
lone_weight a p q x = search (rules, integers)

pair_weight : (l r o : Bool) (p q x y : ℤ) → cond (cond l r (not r)) (cond (cond l o (not o)) (p +ℤ x) (pos 0) +ℤ
    (cond (cond r o (not o)) (q +ℤ y) (pos 0) +ℤ cond (not (cond l o (not o))) (p +ℤ q) (pos 0)))
    (cond (cond l o (not o)) (p +ℤ x) (pos 0) +ℤ cond (cond r o (not o)) (p +ℤ y) (pos 0))
    ≡ cond (cond l r (not r)) (p +ℤ q) p +ℤ (cond (cond l o (not o)) x (pos 0) +ℤ cond (cond r o (not o)) y (pos 0))
pair_weight true true o p q x y = search (rules, integers)
pair_weight true false o p q x y = search (rules, integers)
pair_weight false true o p q x y = search (rules, integers)
pair_weight false false o p q x y = search (rules, integers)

-- At a unit its own vertices and the copies that it takes get one mate each, but for the one at the rim that waits.
unit_weight : (w : ℕ → ℤ) (nodes : ℕ) (copies_at used : ℕ → ℕ) (b : ℕ) (c : ℤ) (on : Bool) (left : End)
    (right : Option End) (os : List Bool) (rs : List ℕ) → EndsBelow nodes left right → ((v : ℕ)
    → used v + ends_active v on left right ≤ copies_at v) → picked (at_ends w) (marks_by copies_at used on left right)
    (links_by copies_at b c left right) +ℤ (held nodes copies_at w used +ℤ picked w
    (with_state right (is_active on left) os) (with_rim right (b + 1) rs)) ≡ span w b (size_by left right)
    +ℤ (held nodes copies_at w (λ v. used v + ends_active v on left right) +ℤ picked w os rs)
unit_weight w nodes copies_at used b c on left None os rs ends free = omega (
  integers,
  pick_unit (at_ends w) copies_at used b c on left None free,
  held_end nodes copies_at w used (is_active on left) left ends,
  held_same nodes copies_at w (λ v. used v + ends_active v on left None) (take_end used (is_active on left) left)
      (λ v l. omega arith),
  lone_weight (is_active on left) (w b) (w (b + 1)) (w (count_below copies_at left.node + used left.node)),
)
unit_weight w nodes copies_at used b c on left (Some right) os rs ends free =
    let next = take_end used (is_active on left) left in
    let sizes : span w b (size_by left (Some right)) ≡ cond (are_alike left right) (w b +ℤ w (b + 1)) (w b) =
    grind integers in
    omega (
      integers,
      sizes,
      pick_unit (at_ends w) copies_at used b c on left (Some right) free,
      held_end nodes copies_at w used (is_active on left) left ends.0,
      held_end nodes copies_at w next (is_active on right) right ends.1,
      held_same nodes copies_at w (λ v. used v + ends_active v on left (Some right))
          (take_end next (is_active on right) right) (λ v l. omega arith),
      pair_weight left.plus right.plus on (w b) (w (b + 1)) (w (count_below copies_at left.node + used left.node))
          (w (count_below copies_at right.node + next right.node)),
    )

-- A unit costs its cost where it is on, and nothing where it is off.
pub unit_cost : (copies_at used : ℕ → ℕ) (b : ℕ) (c : ℤ) (on : Bool) (left : End) (right : Option End) → ((v : ℕ)
    → used v + ends_active v on left right ≤ copies_at v) → picked (λ e. e.cost) (marks_by copies_at used on left right)
    (links_by copies_at b c left right) ≡ cond on c (pos 0)
unit_cost copies_at used b c on left right free = pick_unit _ _ _ b c on _ right free ∙ grind integers

-- A unit has as many marks as edges.
pub unit_length : (copies_at used : ℕ → ℕ) (b : ℕ) (c : ℤ) (on : Bool) (left : End) (right : Option End)
    → length (marks_by copies_at used on left right) ≡ length (links_by copies_at b c left right)
unit_length copies_at used b = search (rules, length-append, choice_length, fan_length)

-- The ends of all units are at nodes.
abbrev pub UnitsAt : ℕ → List ArcUnit → Type 0
UnitsAt nodes us = AllByRecursion (λ u. EndsBelow nodes u.left u.right) us

-- At the units all their vertices and the copies that they take get one mate each, but for those at the rim
-- that wait.
pub units_weight : (w : ℕ → ℤ) (nodes : ℕ) (copies_at used : ℕ → ℕ) (b : ℕ) (us : List ArcUnit) (ons : List Bool)
    → length us ≡ length ons → UnitsAt nodes us → ((v : ℕ) → used v + active v us ons ≤ copies_at v)
    → picked (at_ends w) (units_marks copies_at used us ons) (units_links copies_at b us) +ℤ
    (held nodes copies_at w used +ℤ picked w (rim_states us ons) (rim b us)) ≡ span w b (count unit_size us) +ℤ held
    nodes copies_at w (λ v. used v + active v us ons)
units_weight w nodes copies_at used b [] [] l at free =
    omega (integers, held_same nodes copies_at w (λ v. used v + 0) used (λ v lv. omega arith))
units_weight w nodes copies_at used b (u ∷ us) (on ∷ ons) l at free =
    let next : ℕ → ℕ = λ v. used v + active_at v u on in
    omega (
      integers,
      pick_append (at_ends w) (marks_by copies_at used on u.left u.right) (units_marks copies_at next us ons) _
          (units_links copies_at (b + unit_size u) us) (unit_length copies_at used b u.cost on _ u.right),
      unit_weight w _ copies_at used b u.cost on u.left u.right (rim_states us ons) (rim (b + unit_size u) us) at.0
          (λ v. omega (arith, free v)),
      span_sum w b (unit_size u) (count unit_size us),
      held_same nodes copies_at w (λ v. used v + (active_at v u on + active v us ons))
          (λ v. next v + active v us ons) (λ v lv. omega arith),
      units_weight w nodes copies_at next (b + unit_size u) us ons (omega arith) at.1 (λ v. omega (arith, free v)),
    )
units_weight w nodes copies_at used b _ _ l at free = absurd (omega arith)

-- The units cost what those that are on cost.
pub units_cost : (copies_at used : ℕ → ℕ) (b : ℕ) (us : List ArcUnit) (ons : List Bool) → length us ≡ length ons
    → ((v : ℕ) → used v + active v us ons ≤ copies_at v)
    → picked (λ e. e.cost) (units_marks copies_at used us ons) (units_links copies_at b us) ≡ cost_on us ons
units_cost copies_at used b (u ∷ us) (on ∷ ons) l free =
    let next : ℕ → ℕ = λ v. used v + active_at v u on in
    search (
      rules,
      pick_append,
      unit_length,
      unit_cost,
      units_cost copies_at next (b + unit_size u) us ons (omega arith) (λ v. omega (arith, free v)),
    )
units_cost copies_at used b _ _ l free = omega integers

-- There are as many marks as edges.
pub units_length : (copies_at used : ℕ → ℕ) (b : ℕ) (us : List ArcUnit) (ons : List Bool) → length us ≡ length ons
    → length (units_marks copies_at used us ons) ≡ length (units_links copies_at b us)
units_length copies_at used b (u ∷ us) (on ∷ ons) l = simp length-append (search (
  rules,
  unit_length,
  units_length copies_at (λ v. used v + active_at v u on) (b + unit_size u) us ons (omega arith),
))
units_length copies_at used b _ _ l = omega arith

-- There are as many states at the rim as vertices.
pub states_length : (b : ℕ) (us : List ArcUnit) (ons : List Bool) → length us ≡ length ons → length (rim_states us ons)
    ≡ length (rim b us)
states_length b (u ∷ us) (on ∷ ons) l = grind (arith, states_length (b + unit_size u) us ons (omega arith))
states_length b _ _ l = omega arith

-- Those that wait are the active ones.
pub rim_trues : (us : List ArcUnit) (ons : List Bool) → trues (rim_states us ons) ≡ rim_active us ons
rim_trues (u ∷ us) (on ∷ ons) = grind (arith, rim_trues us ons)
rim_trues _ _ = refl
