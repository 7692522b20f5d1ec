-- Lengths are equal on opposite sides exactly where their whole numbers are.
use Rattle.std.proofs.Common.{rules, ◌≡◌, ℕ, pos, sym, ap, ◌∙◌, arith, zero, suc, ◌*◌, ◌^◌, ◌<◌, ◌≤◌, Bool, cond, ◌==◌}
use Rattle.std.proofs.Common.{List, [], ◌∷◌, length, Option, refl, true, map, ℤ}
use Rattle.std.proofs.lemmas.{Bool.cases_eq, Bool.lt-ltb, Int.ints, List.length-map}
use Rattle.std.{proofs.Math.Nat.mul-le-mul_right, specs.Prelude.option_to_list, specs.Prelude.nat_lt}
use Rattle.{std.specs.List.list_all, sum_laws.proofs.Sums.count_below_total}
use Rattle.sum_laws.proofs.Sums.{count_below_le, count_below_none, count_below_sum, count_below_times}
use Rattle.sum_laws.proofs.Sums.{count_below_prefix, count_below_ones, count_below_same, total_below_same}
use Rattle.def_layout.specs.{Gluings.Way, Gluings.Gluing, Gluings.Slot, Gluings.IsSlot, Lengths.size, Lengths.Lengths}
use Rattle.def_layout.specs.{Lengths.AreLengths, declared.tmesh.TArc.TArc, Arcs.path, Arcs.long_at, Surfaces.IsSurface}
use Rattle.def_layoutnet.specs.LayoutNetLaws.{sum_along, OppositeLaw}
use Rattle.def_layoutnet.specs.LayoutNet.{node_of, weight_of, AreSettings, IsNetOf}
use Rattle.def_math.specs.Counts.{count, count_below}
use Rattle.def_flow.specs.Network.{degree, ends, tangle_number, Network, arc_at, is_bounded, IsWithinBounds}
use Rattle.def_flow.specs.declared.limits.TheConstants.{MAX_FLOOR, MAX_WEIGHT}
use Rattle.def_flow.specs.declared.net.{Arc.Arc, End.End, Settings.Settings, Weight.Weight}
use Rattle.def_flow.specs.Admissible.{IsEven, side_sum}
use Rattle.qm_layoutnet.specs.Ends.{arc_of, open_arc, AreEnds, PatchesBelow}
use Rattle.qm_layoutnet.proofs.Balance.{balance_law, by_ends, node_low}

module _ (l : Gluing) (x : Lengths) (p : ℕ) where
  -- The size of a side is the sum of its whole numbers.
  pub size_is : (s : Way) → pos (size l x p s) ≡ sum_along l (λ arc. pos (x arc)) p s
  size_is s = search (rules, count_below_total)

  same : (s t : Way) → (size l x p s ≡ size l x p t
      → sum_along l (λ arc. pos (x arc)) p s ≡ sum_along l (λ arc. pos (x arc)) p t) × (sum_along l
      (λ arc. pos (x arc)) p s ≡ sum_along l (λ arc. pos (x arc)) p t → size l x p s ≡ size l x p t)
  same s t = (λ e. sym (size_is s) ∙ (ap pos e ∙ size_is t), λ e. omega (arith, ints, size_is s, size_is t, e))

pub opposite_law : OppositeLaw
opposite_law l x some = search (rules, same)

-- The tangle number of few arcs is below 2^64.

-- A term is at most the sum.
pub term_low : (f : ℕ → ℕ) (n k : ℕ) → k < n → f k ≤ count_below f n
term_low f zero k l = absurd (omega arith)
term_low f (suc n) k l = search (rules, cases_eq k n, term_low f n k)

-- A number below a bound is one of them at most.
one_below : (u n : ℕ) → count_below (λ v. cond (u == v) 1 0) n ≤ 1
one_below u zero = omega arith
one_below u (suc n) = search (rules, count_below_none, one_below u n)

-- There are as many ends at the nodes below a bound, and at one node, as there are ends, at most.
ends_few : (es : List End) (n : ℕ) → count_below (λ v. count (λ e. cond (e.node == v) 1 0) es) n ≤ length es
ends_few [] n = omega (arith, count_below_none (λ v. 0) n (λ v l. refl))
ends_few (e ∷ es) n = omega (
  arith,
  count_below_sum (λ v. cond (e.node == v) 1 0) (λ v. count (λ (e : End). cond (e.node == v) 1 0) es) n,
  one_below e.node n,
  ends_few es n,
)

-- An arc has one or two.
right_few : (right : Option End) → length (option_to_list right) ≤ 1
right_few right = grind arith

degrees_few : (arcs : List Arc) (n : ℕ) → count_below (degree arcs) n ≤ 2 * length arcs
degrees_few [] n = omega (arith, count_below_none (λ v. 0) n (λ v l. refl))
degrees_few (a ∷ arcs) n = omega (
  arith,
  count_below_sum (λ v. count (λ e. cond (e.node == v) 1 0) (ends a)) (degree arcs) n,
  ends_few (ends a) n,
  right_few a.right,
  degrees_few arcs n,
)

pub tangle_small : (net : Network) → length net.arcs ≤ 2 ^ 23 → tangle_number net < 2 ^ 64
tangle_small net few =
    let d = degree net.arcs in
    omega (
      arith,
      count_below_le (λ v. 16 * (d v * d v)) (λ v. 2 ^ 28 * d v) net.nodes
          (λ v l. let low : d v ≤ 2 ^ 24 = omega (arith, term_low d net.nodes v l, degrees_few net.arcs net.nodes) in
          omega (arith, mul-le-mul_right {m = d v} {n = 2 ^ 24} (d v) low)),
      count_below_times (2 ^ 28) d net.nodes,
      degrees_few net.arcs net.nodes,
    )

-- The network of a layout is even and within bounds.

-- A count along a list is one over its places.
pub count_at : (f : Arc → ℕ) (xs : List Arc) → count f xs ≡ count_below (λ k. f (arc_at xs k)) (length xs)
count_at f [] = refl
count_at f (x ∷ xs) = omega (arith, count_at f xs, count_below_prefix (λ k. f (arc_at (x ∷ xs) k)) (length xs))

-- What each arc passes all pass.
pub all_pass : (p : Arc → Bool) (xs : List Arc) → ((k : ℕ) → k < length xs → p (arc_at xs k) ≡ true)
    → list_all p xs ≡ true
all_pass p [] each = refl
all_pass p (x ∷ xs) each = search (rules, each 0, all_pass p xs (λ k l. each (suc k) (omega arith)))

-- The arcs before any end is put in.
open_at : (set : Settings) (runs : List TArc) (a : ℕ) → a < length runs → arc_at (map (open_arc set) runs) a
    ≡ arc_of set (long_at (map path runs) a)
open_at set [] a l = absurd (omega arith)
open_at set (r ∷ rs) zero l = refl
open_at set (r ∷ rs) (suc a) l = open_at set rs a (omega arith)

pub ends_begin : (l : Gluing) (set : Settings) (runs : List TArc) → length (map path runs) ≡ l.arcs
    → AreEnds l (long_at (map path runs)) set (PatchesBelow 0) (map (open_arc set) runs)
ends_begin l set runs long = search (rules, length-map, open_at)

-- When all slots are done, these are the arcs of the network.
pub net_is : (l : Gluing) (old : Lengths) (set : Settings) (net : Network) → net.nodes ≡ 2 * l.patches → net.p ≡ set.p
    → net.q ≡ set.q → AreEnds l old set (PatchesBelow l.patches) net.arcs → IsNetOf l old old set (λ a. set.floor) net
net_is l old set net nodes p q are = search rules

module _ {l : Gluing} {x floor : Lengths} {set : Settings} {net : Network} (laid : IsSurface l) (len : AreLengths l x)
    (few : count_below x l.arcs ≤ 2 ^ 23) (in_range : AreSettings set)
    (floors : (a : ℕ) → a < l.arcs → (1 ≤ floor a) × (floor a ≤ MAX_FLOOR)) (is : IsNetOf l x x set floor net) where
  -- The arcs are few.
  arcs_few : l.arcs ≤ 2 ^ 23
  arcs_few = omega (arith, count_below_ones l.arcs, count_below_le (λ k. 1) x l.arcs (λ k low. len.some k low))

  old_at : (k : ℕ) → k < length net.arcs → (arc_at net.arcs k).old ≡ x k
  old_at k low = is.olds k (omega arith)

  -- The sum along a side is the size of the side.
  along_is : (p : ℕ) (s : Way) → p < l.patches → sum_along l (λ k. pos (arc_at net.arcs k).old) p s ≡ pos (size l x p s)
  along_is p s low = total_below_same (λ k. pos _) (λ k. pos (x (l.use_at p s k).arc)) (l.many p s)
      (λ k less. ap pos (is.olds (l.use_at p s k).arc (laid.paved.arc_low (record { patch = p; side = s; at = k })
      (record { patch_low = low; low = less })))) ∙ sym (size_is l x p s)

  even : IsEven net
  even = record {
    high = λ k low. omega (arith, old_at k low, len.some k (omega (arith, low, is.long)));
    small = search (rules, count_at, count_below_same, old_at, few);
    balanced = search (rules, balance_law l x x set floor net laid is (λ k. pos (arc_at net.arcs k).old), along_is);
  }

  -- Weights are from 1 on.
  weight_low : (w : Weight) (n : ℕ) → 1 ≤ n → (1 ≤ weight_of w n) × (weight_of w n ≤ MAX_WEIGHT)
  weight_low w n h = search rules

  ends_low : (k : ℕ) → k < l.arcs → list_all (λ (e : End). nat_lt e.node net.nodes) (ends (arc_at net.arcs k)) ≡ true
  ends_low k low = by_ends is (λ left right. list_all (λ (e : End). nat_lt e.node net.nodes)
      (left ∷ option_to_list right) ≡ true) laid k low
      (λ w slot e. (λ none. rw (at w slot) refl, λ v slot_v e_v. rw (at w slot, at v slot_v) refl))
    where
      at : (v : Slot) → IsSlot l v → nat_lt (node_of v.patch v.side) net.nodes ≡ true
      at v slot = lt-ltb _ net.nodes (omega (arith, is.nodes, node_low v.patch v.side l.patches slot.patch_low))

  bounded : (k : ℕ) → k < length net.arcs → is_bounded net.nodes (arc_at net.arcs k) ≡ true
  bounded k low =
      let k_low : k < l.arcs = omega (arith, is.long) in
      let w = weight_low set.weight (x k) (len.some k k_low) in
      let f = floors k k_low in
      search (rules, is.weights k k_low, is.floors k k_low, old_at k low, term_low x l.arcs k k_low, ends_low k k_low)

  -- It is even and within bounds, and its tangle number fits.
  pub all_is : IsEven net × IsWithinBounds net × (tangle_number net < 2 ^ 64)
  all_is = search (rules, even, all_pass, bounded, arcs_few, tangle_small)

-- Two networks whose arcs have the same ends have the same sums at their nodes, and are equally tangled.

-- Lists whose arcs are alike in something count it alike.
pub count_same : (f : Arc → ℕ) (xs ys : List Arc) → length xs ≡ length ys
    → ((k : ℕ) → k < length ys → f (arc_at xs k) ≡ f (arc_at ys k)) → count f xs ≡ count f ys
count_same f xs ys long same = search (rules, count_at, count_below_same)

module _ (net new : Network) (nodes : new.nodes ≡ net.nodes) (long : length new.arcs ≡ length net.arcs)
    (same : (k : ℕ) → k < length net.arcs → ends (arc_at new.arcs k) ≡ ends (arc_at net.arcs k)) where
  degree_same : (v : ℕ) → degree new.arcs v ≡ degree net.arcs v
  degree_same v = search (rules, count_same)

  pub tangle_same : tangle_number new ≡ tangle_number net
  tangle_same = search (rules, degree_same)

  -- Equal entries have equal sums.
  pub sums_same : (x y : ℕ → ℤ) (plus : Bool) (v : ℕ) → ((k : ℕ) → k < length net.arcs → x k ≡ y k)
      → side_sum new.arcs x plus v ≡ side_sum net.arcs y plus v
  sums_same x y plus v equal = search (rules, total_below_same)
