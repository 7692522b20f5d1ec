-- A list that is no farther from what is wanted than the start has no great length.
use Rattle.std.proofs.Common.{◌≡◌, ℕ, suc, ◌+◌, ◌*◌, ◌^◌, ◌<◌, ◌≤◌, ◌↔◌, true, false, List, length, arith, pos, ◌-ℤ◌}
use Rattle.std.proofs.Common.{◌*ℤ◌, mul-one, inl, inr, ◌∙◌, ap, None, zero, ◌/◌, Bool, cond, mul_assoc, max, [], ◌∷◌, ℤ}
use Rattle.std.proofs.{Common.◌≤ℤ◌, Common.refl, Common.add-mul, lemmas.List.get_or_default}
use Rattle.std.proofs.lemmas.{List.length-map, List.get_or-map, Int.ints, List.Sums.AllPass-from_list_all}
use Rattle.std.proofs.{lemmas.List.Sums.list_all-from_AllPass, Math.Nat.mul-le-mul_left, Math.Nat.mul-le-mul_right}
use Rattle.std.{proofs.Math.Nat.mul-le-mul, specs.Prelude.slice_index, specs.Prelude.unsigned_abs, specs.List.list_all}
use Rattle.std.proofs.lemmas.Bool.{cases_lt, and_parts}
use Rattle.def_flow.specs.Network.{Network, IsWithinBounds, arc_at, is_bounded, ends}
use Rattle.def_flow.specs.Admissible.{AreNetLengths, IsAdmissible, arc_deviation, deviation, entries, IsBalanced}
use Rattle.def_flow.specs.{Admissible.IsEven, Admissible.is_on_side, Admissible.side_sum, Descent.IsStartOf}
use Rattle.def_flow.specs.{Descent.greatest_floor, Descent.times_old, declared.net.Arc.Arc, declared.net.End.End}
use Rattle.def_math.specs.{Counts.count, Counts.count_below, Sums.total, Sums.total_below}
use Rattle.sum_laws.proofs.Sums.{count_below_prefix, count_below_le, count_below_times, times_sum, total_below_same}
use Rattle.{sum_laws.proofs.Sums.total_same, table_laws.proofs.Ranges.part_low, qm_net.proofs.Within.arc_within}
use Rattle.{qm_net.proofs.Within.bounded_arc, qm_solve.specs.Rounds.is_near_arc}

-- A length within reach.
short : (q p old x far most : ℕ) → 1 ≤ q → unsigned_abs (pos q *ℤ pos x -ℤ pos (p * old)) ≤ far
    → p * old + far ≤ most * q → x ≤ most
short q p old x far most some near room = elim (cases_lt most x) [
  | inl l ↦ absurd (let more : q * suc most ≤ q * x = mul-le-mul_left q (omega arith) in omega (arith, ints, more))
  | inr h ↦ h
]

-- A start has lengths in range.
pub start_lengths : (net : Network) (xs : List ℕ) → IsWithinBounds net → IsStartOf net xs → AreNetLengths net.arcs xs
start_lengths net xs bounds from = record {
  count = from.count;
  small = λ k l.
      let old = (arc_at net.arcs k).old in
      let inner : k < length net.arcs = omega (arith, from.count) in
      let part = part_low (λ j. arc_deviation net (arc_at net.arcs j) (entries xs j)) k (length net.arcs) inner in
      let some = mul-le-mul_right (unsigned_abs (pos net.q *ℤ pos (slice_index xs k) -ℤ pos (net.p * old)))
      (arc_within bounds inner).weight_low in
      short net.q net.p old (slice_index xs k) (deviation net (entries xs)) (10 ^ 12) bounds.q_low
      (omega (arith, some, part)) (from.near k inner);
}

-- The test of the range.
test_is : (net : Network) (d : ℕ) (a : Arc) → (is_near_arc net (pos d) a ≡ true) ↔ (net.p * a.old + d ≤ 10 ^ 12 * net.q)
test_is net d a = (λ on. grind (arith, ints), λ le. grind (arith, ints))

abbrev no_arc : Arc
no_arc = record { left = record { node = 0; plus = true }; right = None; old = 0; weight = 0; floor = 0 }

-- A list that is lawful and passes the test may start the descent, and no other.
pub near_is : (net : Network) (xs : List ℕ) {far : ℤ} {test : Bool} → test ≡ list_all (is_near_arc net far) net.arcs
    → far ≡ pos (deviation net (entries xs)) → AreNetLengths net.arcs xs → IsAdmissible net (entries xs)
    → (test ≡ true) ↔ IsStartOf net xs
near_is net xs told same lengths admissible =
    let off = deviation net (entries xs) in
    rw (told, same) (
      λ on. record {
        count = lengths.count;
        admissible = admissible;
        near = λ k l. (test_is net off (arc_at net.arcs k)).0
            (AllPass-from_list_all (is_near_arc net (pos off)) net.arcs on k _ l);
      },
      λ from. list_all-from_AllPass (is_near_arc net (pos off)) net.arcs (λ k d l.
          rw (get_or_default net.arcs k d no_arc l) ((test_is net off (arc_at net.arcs k)).1 (from.near k l))),
    )

-- A multiple of the old lengths is a start of the descent.

-- A factor of all terms.
total_times : {X : Type 0} (c : ℤ) (f : X → ℤ) (xs : List X) → total (λ x. c *ℤ f x) xs ≡ c *ℤ total f xs
total_times c f [] = omega (arith, ints)
total_times c f (x ∷ xs) = omega (arith, ints, total_times c f xs, times_sum c (f x) (total f xs))

total_below_times : (c : ℤ) (f : ℕ → ℤ) (n : ℕ) → total_below (λ k. c *ℤ f k) n ≡ c *ℤ total_below f n
total_below_times c f zero = omega (arith, ints)
total_below_times c f (suc n) = omega (arith, ints, total_below_times c f n, times_sum c (total_below f n) (f n))

-- The entries of a multiple.
multiple_at : (c : ℕ) (arcs : List Arc) (k : ℕ) → k < length arcs → slice_index (times_old c arcs) k
    ≡ c * (arc_at arcs k).old
multiple_at c arcs k l = get_or-map (λ (a : Arc). c * a.old) arcs k no_arc 0 l

-- The sides of a node have a multiple of the old sums.
side_times : (arcs : List Arc) (c : ℕ) (plus : Bool) (v : ℕ) → side_sum arcs (entries (times_old c arcs)) plus v
    ≡ pos c *ℤ side_sum arcs (λ k. pos (arc_at arcs k).old) plus v
side_times arcs c plus v = total_below_same _ _ (length arcs) (λ k l. total_same _ _ (ends (arc_at arcs k)) (one k l)
    ∙ total_times (pos c) (λ (e : End). cond (is_on_side v plus e) (pos (arc_at arcs k).old) (pos 0))
    (ends (arc_at arcs k)))
    ∙ total_below_times (pos c) (λ k. total (λ (e : End). cond (is_on_side v plus e) (pos (arc_at arcs k).old) (pos 0))
    (ends (arc_at arcs k))) (length arcs)
  where
    one : (k : ℕ) → k < length arcs → (e : End) → cond (is_on_side v plus e) (entries (times_old c arcs) k) (pos 0)
        ≡ pos c *ℤ cond (is_on_side v plus e) (pos (arc_at arcs k).old) (pos 0)
    one k l e = grind (arith, ints, multiple_at c arcs k l)

-- The sum of the old lengths, by the arcs' numbers.
old_sum : (arcs : List Arc) → count_below (λ k. (arc_at arcs k).old) (length arcs) ≡ count (λ a. a.old) arcs
old_sum [] = refl
old_sum (a ∷ arcs) = count_below_prefix (λ k. (arc_at (a ∷ arcs) k).old) (length arcs)
    ∙ ap (λ n. a.old + n) (old_sum arcs)

-- How far a multiple of one old length is from the scale.
apart : (q p c old : ℕ) → p ≤ q * c + q → q * c ≤ p + 3 * q → unsigned_abs (pos q *ℤ pos (c * old) -ℤ pos (p * old))
    ≤ 3 * q * old
apart q p c old below above =
    let up : p * old ≤ (q * c + q) * old = mul-le-mul_right old below in
    let down : q * c * old ≤ (p + 3 * q) * old = mul-le-mul_right old above in
    omega (arith, ints, up, down, add-mul (q * c) q old, add-mul p (3 * q) old, mul_assoc q c old, mul_assoc 3 q old)

-- The sum of the deviations of a multiple.
far_sum : (net : Network) (c : ℕ) → IsWithinBounds net → net.p ≤ net.q * c + net.q → net.q * c ≤ net.p + 3 * net.q
    → deviation net (entries (times_old c net.arcs)) ≤ 1000 * (3 * net.q) * count (λ a. a.old) net.arcs
far_sum net c bounds below above = omega (
  arith,
  count_below_le _ (λ k. 1000 * (3 * net.q) * (arc_at net.arcs k).old) (length net.arcs) each,
  count_below_times (1000 * (3 * net.q)) (λ k. (arc_at net.arcs k).old) (length net.arcs),
  ap (λ n. 1000 * (3 * net.q) * n) (old_sum net.arcs),
)
  where
    each : (k : ℕ) → k < length net.arcs → arc_deviation net (arc_at net.arcs k) (entries (times_old c net.arcs) k)
        ≤ 1000 * (3 * net.q) * (arc_at net.arcs k).old
    each k l =
        let a : Arc = arc_at net.arcs k in
        let near : unsigned_abs (pos net.q *ℤ pos (c * a.old) -ℤ pos (net.p * a.old)) ≤ 3 * net.q * a.old =
        apart net.q net.p c a.old below above in
        let all : a.weight * unsigned_abs (pos net.q *ℤ pos (c * a.old) -ℤ pos (net.p * a.old))
        ≤ 1000 * (3 * net.q * a.old) = mul-le-mul (arc_within bounds l).weight_high near in
        rw (multiple_at c net.arcs k l) (omega (arith, all, mul_assoc 1000 (3 * net.q) a.old))

-- A multiple by a number near the scale, and no less than any floor.
multiple_starts : (net : Network) (c : ℕ) → IsWithinBounds net → IsEven net
    → ((k : ℕ) → k < length net.arcs → (arc_at net.arcs k).floor ≤ c) → c ≤ 1000
    → net.p ≤ net.q * c + net.q → net.q * c ≤ net.p + 3 * net.q → IsStartOf net (times_old c net.arcs)
multiple_starts net c bounds even high low below above = record {
  count = length-map net.arcs (λ a. c * a.old);
  admissible = record { high = tall; balanced = balanced };
  near = near;
}
  where
    all : ℕ
    all = count (λ a. a.old) net.arcs

    tall : (k : ℕ) → k < length net.arcs → pos (arc_at net.arcs k).floor ≤ℤ entries (times_old c net.arcs) k
    tall k l =
        let some : c * 1 ≤ c * (arc_at net.arcs k).old = mul-le-mul_left c (even.high k l) in
        rw (multiple_at c net.arcs k l) (omega (arith, ints, some, mul-one c, high k l))

    balanced : IsBalanced net.arcs (entries (times_old c net.arcs))
    balanced v = cc (side_times net.arcs c true v, side_times net.arcs c false v, even.balanced v)

    near : (k : ℕ) → k < length net.arcs
        → net.p * (arc_at net.arcs k).old + deviation net (entries (times_old c net.arcs)) ≤ 10 ^ 12 * net.q
    near k l =
        let part : (arc_at net.arcs k).old ≤ all =
        omega (arith, part_low (λ j. (arc_at net.arcs j).old) k (length net.arcs) l, old_sum net.arcs) in
        let scale : net.q * c ≤ net.q * 1000 = mul-le-mul_left net.q low in
        let wanted : net.p * (arc_at net.arcs k).old ≤ (1001 * net.q) * 2 ^ 23 =
        mul-le-mul (omega arith) (omega (arith, part, even.small)) in
        let far : 1000 * (3 * net.q) * all ≤ 1000 * (3 * net.q) * 2 ^ 23 =
        mul-le-mul_left (1000 * (3 * net.q)) even.small in
        omega (arith, wanted, far, far_sum net c bounds below above)

-- The greatest floor is as high as each, and no higher than the bound.
greatest_high : (arcs : List Arc) (k : ℕ) → k < length arcs → (arc_at arcs k).floor ≤ greatest_floor arcs
greatest_high [] k l = absurd (omega arith)
greatest_high (a ∷ arcs) zero l = omega arith
greatest_high (a ∷ arcs) (suc k) l = omega (arith, greatest_high arcs k (omega arith))

pub greatest_low : (nodes : ℕ) (arcs : List Arc) → list_all (is_bounded nodes) arcs ≡ true → greatest_floor arcs ≤ 3
greatest_low nodes [] on = omega arith
greatest_low nodes (a ∷ arcs) on =
    let both = and_parts (is_bounded nodes a) (list_all (is_bounded nodes) arcs) on in
    omega (arith, bounded_arc {nodes = nodes} {a = a} both.0, greatest_low nodes arcs both.1)

-- The greater of the greatest floor and the whole part of the scale is such a number.
pub even_start : (net : Network) (c : ℕ) → IsWithinBounds net → IsEven net → c ≡ max (greatest_floor net.arcs)
    (net.p / net.q) → IsStartOf net (times_old c net.arcs)
even_start net c bounds even is =
    let low : greatest_floor net.arcs ≤ 3 = greatest_low net.nodes net.arcs bounds.arcs in
    let up : net.q * (net.p / net.q) ≤ net.q * c = mul-le-mul_left net.q (omega (arith, is)) in
    multiple_starts net c bounds even (λ k l. omega (arith, is, greatest_high net.arcs k l))
    (omega (arith, is, bounds.p_high, low)) (omega (arith, bounds.q_low, up))
    (grind (arith, is, mul-le-mul_left net.q low))
