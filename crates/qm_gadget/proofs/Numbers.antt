-- Numbers of marks, one part of the marks after the other.
use Rattle.std.proofs.Common.{rules, ◌≡◌, ℕ, zero, suc, ◌+◌, ◌<◌, ◌≤◌, ◌==◌, Bool, true, false, not, ◌&&◌, cond, List}
use Rattle.std.proofs.Common.{[], ◌∷◌, ◌++◌, length, drop, Some, None, refl, sym, ◌∙◌, ap, add-zero, arith, ◌-◌, take}
use Rattle.std.proofs.{Common.length-append, lemmas.Bool.cases_eq, lemmas.Bool.le-ltb, lemmas.Bool.Decides.nat_tests}
use Rattle.std.{proofs.lemmas.List.append-nil, specs.Prelude.nat_lt, specs.Prelude.slice_index_or, specs.Bool.beq}
use Rattle.def_flow.specs.MatchingGraph.{graph_by, units_links, unit_size}
use Rattle.def_flow.specs.Units.{is_active, arcwise, low, cap}
use Rattle.def_flow.specs.declared.{net.End.End, net.Arc.Arc, units.ArcUnit.ArcUnit}
use Rattle.gadget_laws.specs.Marks.{choice, places, take_end, end_marks, marks_by, differ, mark_from, rim_marks, trues}
use Rattle.gadget_laws.specs.Told.{marks_from, state_told, states_told, steps_told, lengths_on}
use Rattle.gadget_laws.proofs.Pick.{choice_length, links_width}
use Rattle.qm_gadget.specs.Marked.{right_marks, mark_if, rim_by, turn_marks}
use Rattle.qm_gadget.specs.Read.{width_of_unit, first_below, skip_below, lengths_by}
use Rattle.{qm_gadget.proofs.Fans.two_parts, def_math.specs.Counts.count, def_math.specs.Increasing.IsIncreasing}

-- The numbers of two lists of marks in a row.
pub places_append : (k : ℕ) (ms ns : List Bool) → places k (ms ++ ns) ≡ places k ms ++ places (k + length ms) ns
places_append k [] ns = ap (λ i. places i ns) (sym (add-zero k))
places_append k (true ∷ ms) ns = search (rules, places_append (k + 1) ms ns)
places_append k (false ∷ ms) ns = search (rules, places_append (k + 1) ms ns)

-- What is chosen among n edges.
pub choice_places : (k : ℕ) (some : Bool) (i n : ℕ) → places k (choice some i n)
    ≡ cond (some && nat_lt i n) ((k + i) ∷ []) []
choice_places k some i zero = grind (arith, nat_tests)
choice_places k some zero (suc n) = grind (arith, nat_tests, choice_places (k + 1) false zero n)
choice_places k some (suc i) (suc n) = search (rules, choice_places (k + 1) some i n)

-- The numbers of one part of the marks after what was there, and those of a second part.
pub places_two : {mid now : List ℕ} {n : ℕ} (old : List ℕ) (k : ℕ) (ms ns : List Bool) → length ms ≡ n
    → mid ≡ old ++ places k ms → now ≡ mid ++ places (k + n) ns → now ≡ old ++ places k (ms ++ ns)
places_two {mid} {now} old k ms ns width first second = search (rules, places_append, two_parts)

-- The marks at the rim, by whether there is a vertex before.
mark_is : (b : ℕ) (there m : Bool) → mark_from (cond there (Some b) None) m ≡ mark_if there m
mark_is b there m = grind arith

pub rim_is : (b : ℕ) (there waits : Bool) (fresh : ℕ) (os : List Bool)
    → rim_marks (cond there (Some b) None) waits fresh os ≡ rim_by there waits os
rim_is b there waits fresh [] = refl
rim_is b there waits fresh (o ∷ []) = mark_is b there (waits && o)
rim_is b there waits fresh (o ∷ p ∷ os) = search (rules, rim_is (fresh + 1) true (differ waits o) (fresh + 2) (p ∷ os))

-- The marks of a unit with two ends, where the copies in use are counted in between.
pub unit_two : (old mid now : List ℕ) (k : ℕ) (copies_at used next : ℕ → ℕ) (on : Bool) (left right : End)
    → next right.node ≡ take_end used (is_active on left) left right.node → mid ≡ old ++ places k
    (end_marks copies_at used (is_active on left) left) → now ≡ mid ++ places (k + copies_at left.node)
    (right_marks copies_at next on left right) → now ≡ old ++ places k (marks_by copies_at used on left (Some right))
unit_two old mid now k copies_at used next on left right taken first second = search (rules, places_two, choice_length)

-- The numbers of the first part of the marks, and those of what is left.
pub marks_step : (m : List ℕ) {now : List ℕ} (k : ℕ) {w : ℕ} (part rest : List Bool) {whole : List Bool}
    → whole ≡ part ++ rest → length part ≡ w
    → now ≡ m ++ places k part → now ++ places (k + w) rest ≡ m ++ places k whole
marks_step m k part rest split width pushed = rw split (places_two m k part rest width pushed refl)

-- The marks of one vertex at the rim, and of those after it.
pub rim_step : (there waits : Bool) (os : List Bool) (i : ℕ) → i < length os → rim_by there waits (drop i os)
    ≡ turn_marks there waits (slice_index_or os i false) (i + 1 == length os)
    ++ rim_by true (differ waits (slice_index_or os i false)) (drop (i + 1) os)
rim_step there waits [] i l = absurd (omega arith)
rim_step there waits (o ∷ []) zero l = sym (append-nil (mark_if there (waits && o)))
rim_step there waits (o ∷ p ∷ os) zero l = search rules
rim_step there waits (o ∷ os) (suc i) l = search (rules, rim_step there waits os i (omega arith))

-- Reading an increasing list of edges unit by unit.

-- In a list that rises from a bound on, nothing is below the bound.
none_below : (k low high : ℕ) (m : List ℕ) → k ≤ low → IsIncreasing low high m → (skip_below k m ≡ m)
    × (first_below m k ≡ false)
none_below k low high [] le increasing = (refl, refl)
none_below k low high (e ∷ m) le increasing = search (rules, le-ltb e k (omega (arith, increasing.0)))

-- Without the numbers below a bound it rises from the bound on.
pub increasing_skip : (k end high : ℕ) (m : List ℕ) → IsIncreasing k high m → IsIncreasing end high (skip_below end m)
increasing_skip k end high [] increasing = tt
increasing_skip k end high (e ∷ m) increasing = search (rules, increasing_skip (e + 1) end high m increasing.2)

-- What is left of the marks past a number of edges, and whether one of these is marked: exactly if the first number is
-- among them.
marks_past : (w n t k low high : ℕ) (m : List ℕ) → t ≡ w + n → k ≤ low → IsIncreasing low high m
    → (drop w (marks_from k t m) ≡ marks_from (k + w) n (skip_below (k + w) m))
    × (nat_lt 0 (trues (take w (marks_from k t m))) ≡ first_below m (k + w))
marks_past zero n t k low high m e le increasing = search (rules, add-zero, none_below k low high m le increasing)
marks_past (suc w) n zero k low high m e le increasing = absurd (omega arith)
marks_past (suc w) n (suc t) k low high [] e le increasing =
    grind (arith, nat_tests, marks_past w n t (k + 1) (k + 1) high [] (omega arith) (omega arith) tt)
marks_past (suc w) n (suc t) k low high (x ∷ m) e le increasing = grind (
  arith,
  nat_tests,
  cases_eq x k,
  marks_past w n t (k + 1) (x + 1) high m (omega arith) (omega (arith, increasing.0)) increasing.2,
  λ (later : k + 1 ≤ x). marks_past w n t (k + 1) x high (x ∷ m) (omega arith) later
      (omega arith, increasing.1, increasing.2),
)

-- The state of a unit, by the first number.
pub state_read : (copies_at : ℕ → ℕ) (left : End) (t k high : ℕ) (m : List ℕ) → copies_at left.node ≤ t
    → IsIncreasing k high m → state_told copies_at (marks_from k t m) left
    ≡ beq left.plus (first_below m (k + copies_at left.node))
state_read copies_at left t k high m le increasing = ap (λ b. cond left.plus b (not b))
    (marks_past (copies_at left.node) (t - copies_at left.node) t k k high m (omega arith) (omega arith) increasing).1
    ∙ grind (arith)

-- The states from a unit on, by the first numbers: its own, and those from the next on.
pub states_read : (copies_at : ℕ → ℕ) (u : ArcUnit) (us : List ArcUnit) (k edges : ℕ) (m : List ℕ)
    → k + count (width_of_unit copies_at) (u ∷ us) ≤ edges → IsIncreasing k edges m
    → states_told copies_at (u ∷ us) (marks_from k (edges - k) m)
    ≡ beq u.left.plus (first_below m (k + copies_at u.left.node))
    ∷ states_told copies_at us (marks_from (k + width_of_unit copies_at u) (edges - (k + width_of_unit copies_at u))
    (skip_below (k + width_of_unit copies_at u) m))
states_read copies_at u us k edges m place increasing = search (rules, state_read, marks_past)

-- The widths of all units are no more than the edges of the graph.
widths_links : (copies_at : ℕ → ℕ) (b : ℕ) (us : List ArcUnit) → length (units_links copies_at b us)
    ≡ count (width_of_unit copies_at) us
widths_links copies_at b [] = refl
widths_links copies_at b (u ∷ us) = simp length-append
    (rw (links_width copies_at b u.cost u.left u.right, widths_links copies_at (b + unit_size u) us) refl)

pub widths_low : (nodes : ℕ) (copies_at : ℕ → ℕ) (lone : Bool) (us : List ArcUnit)
    → count (width_of_unit copies_at) us ≤ length (graph_by nodes copies_at lone us).edges
widths_low nodes copies_at lone us = search (rules, length-append, widths_links)

-- The lengths by lows and caps are those with so many units on.
pub lengths_is : (step : ℕ) (arcs : List Arc) (xs : List ℕ) (ons : List Bool) → lengths_by step (arcwise
    (low step) arcs xs) (arcwise (cap step) arcs xs) ons ≡ lengths_on step arcs xs (steps_told step arcs xs ons)
lengths_is step (a ∷ arcs) (x ∷ xs) ons = search (rules, lengths_is step arcs xs (drop (cap step a x) ons))
lengths_is step _ _ ons = refl
