-- Whole square roots: there is one, and it is computed digit by digit.
use Rattle.std.proofs.Common.{rules, ℕ, zero, suc, ◌+◌, ◌*◌, ◌/◌, ◌^◌, ◌<◌, ◌≤◌, inl, inr, arith, ◌≡◌, List, length}
use Rattle.std.proofs.Common.{pos, ◌-ℤ◌, ◌*ℤ◌, sym, ap, ◌∙◌, mul-one}
use Rattle.std.proofs.lemmas.{Nat.mul-le, Bool.Decides.leb_tells, Int.ints, List.get_or-map, List.length-map}
use Rattle.std.proofs.Math.Nat.{mul-le-mul_left, mul-le-mul_right}
use Rattle.def_metric.specs.Roots.{doubled_root, root_of, root_within, IsRoot, WholeRootLaw}
use Rattle.{def_metric.specs.Fails.AreNear, table_laws.proofs.Ranges.part_low, def_math.specs.Counts.count_below}
use Rattle.def_metric.specs.{Starts.times_long, Starts.StartLaw, declared.limits.TheConstants.MAX_TARGETS}
use Rattle.def_flow.specs.Admissible.{arc_deviation, deviation, entries}
use Rattle.{def_flow.specs.Descent.IsStartOf, qm_layoutnet.proofs.Whole.lengths_few, def_remesh.specs.Keeping.IsNetWith}
use Rattle.{def_flow.specs.Network.Network, def_flow.specs.Network.arc_at, def_layoutnet.specs.LayoutNet.weight_of}
use Rattle.def_flow.specs.declared.{limits.TheConstants.MAX_FLOOR, net.Settings.Settings, net.Weight.Weight}
use Rattle.{def_layout.specs.Arcs.long_at, qm_layoutnet.proofs.Floors.floor_high, sum_laws.proofs.Sums.count_below_same}
use Rattle.def_layout.specs.{Surfaces.IsSurface, Lengths.Lengths, Lengths.size, Layouts.Layout, Layouts.gluing_of}
use Rattle.def_layout.specs.Gluings.{Way, south, east, north, west, Gluing}
use Rattle.sum_laws.proofs.Sums.{count_below_le, count_below_sum, count_below_times, count_below_total}
use Rattle.{qm_layoutnet.proofs.Balance.balance_law, def_remesh.specs.Tasks.given_floors, def_remesh.specs.Tasks.Wish}
use Rattle.{def_layoutnet.specs.LayoutNetLaws.sum_along, std.specs.Prelude.slice_index, std.specs.Prelude.unsigned_abs}
use Rattle.embedding_laws.proofs.Bounds.{laid_of, lengths_of}

-- A number whose square is at most n is at most each root.
upto : (n r s : ℕ) → r * r ≤ n → n < (s + 1) * (s + 1) → r ≤ s
upto n r s low high = grind (arith, mul-le (s + 1) (s + 1) r r)

-- One more digit.
more : (n r : ℕ) → IsRoot (n / 4) r → IsRoot n (doubled_root n r)
more n r is = elim (leb_tells ((2 * r + 1) * (2 * r + 1)) n) [
  | inl le ↦ rw le.0 (record { low = le.1; high = omega (arith, is.high) })
  | inr gt ↦ rw gt.0 (record { low = omega (arith, is.low); high = gt.1 })
]

within : (digits n : ℕ) → n < 4 ^ digits → IsRoot n (root_within digits n)
within zero n low = record { low = omega arith; high = omega arith }
within (suc digits) n low = search (rules, more, within digits (n / 4) (omega arith))

pub root_law : WholeRootLaw
root_law n low = let found = within 64 n low in
    (found, λ r is. omega (arith, upto n r (root_of n) is.low found.high, upto n (root_of n) r found.low is.high))

-- The root of a number below 2 ^ 124.
pub root_small : (n r : ℕ) → IsRoot n r → n < 2 ^ 124 → r < 2 ^ 62
root_small n r is low = search rules

-- The old lengths, as many times as no floor is above, start the descent whatever lengths are wished for.

-- No weight is above 1000.
weight_low : (weight : Weight) (old : ℕ) → weight_of weight old ≤ 1000
weight_low weight old = grind arith

module _ (wish : Wish) (layout : Layout) (settings : Settings) (floors : Lengths) (net : Network)
    (is : IsNetWith wish layout settings floors net) (times : ℕ)
    (above : (k : ℕ) → k < length net.arcs → ((arc_at net.arcs k).floor ≤ times) × (times ≤ MAX_FLOOR))
    (unit : settings.p ≡ 1) (parts : settings.q ≡ 1000) (near : AreNear wish layout) where
  abbrev l : Gluing
  l = gluing_of layout

  abbrev x : Lengths
  x = long_at layout.arcs

  abbrev xs : List ℕ
  xs = times_long times layout

  laid : IsSurface (gluing_of layout)
  laid = laid_of layout is.mesh

  entry : (a : ℕ) → a < length layout.arcs → slice_index xs a ≡ times * x a
  entry a low = search (rules, get_or-map)

  -- Opposite sides are equal.
  along : (p : ℕ) (s : Way) → p < l.patches → sum_along l (entries xs) p s ≡ pos (times * size l x p s)
  along p s low = sym (count_below_total (λ k. slice_index xs (l.use_at p s k).arc) (l.many p s))
      ∙ ap pos (count_below_same _ (λ k. times * x (l.use_at p s k).arc) (l.many p s)
      (λ k less. entry _ (laid.paved.arc_low (record { patch = p; side = s; at = k })
      (record { patch_low = low; low = less }))) ∙ count_below_times times (λ k. x (l.use_at p s k).arc) (l.many p s))

  arc_low : (k : ℕ) → k < length net.arcs → k < length layout.arcs
  arc_low k low = omega (arith, low, is.is.long)

  -- How far an arc is from its wish.
  far : (k : ℕ) → k < length net.arcs → arc_deviation net (arc_at net.arcs k) (entries xs k)
      ≤ 1000 * (3000 * x k + wish layout k)
  far k low =
      let inner = arc_low k low in
      let high : times * x k ≤ 3 * x k = mul-le-mul_right (x k) (above k low).1 in
      let few : unsigned_abs (pos 1000 *ℤ pos (times * x k) -ℤ pos (1 * wish layout k)) ≤ 3000 * x k + wish layout k
      = omega (arith, ints, high) in
      rw (is.is.weights k inner, is.is.q, parts, entry k inner, is.is.p, unit, is.is.olds k inner)
      (mul-le _ _ 1000 (3000 * x k + wish layout k) (weight_low settings.weight (x k)) few)

  all_far : deviation net (entries xs) ≤ 1000 * (3000 * 2 ^ 23 + MAX_TARGETS)
  all_far =
      let n = length net.arcs in
      let each = count_below_le (λ k. arc_deviation net (arc_at net.arcs k) (entries xs k))
      (λ k. 1000 * (3000 * x k + wish layout k)) n far in
      let heavy = count_below_times 1000 (λ k. 3000 * x k + wish layout k) n in
      let sum = count_below_sum (λ k. 3000 * x k) (wish layout) n in
      let lengths = ap (count_below x) is.is.long in
      let wishes = ap (count_below (wish layout)) is.is.long in
      omega (arith, each, heavy, sum, count_below_times 3000 x n, near, lengths_few layout is.mesh, is.mesh.mesh.few)

  pub start_at : IsStartOf net xs
  start_at =
      let len = lengths_of layout is.mesh in
      let balanced = balance_law l x (wish layout) settings floors net laid is.is (entries xs) in
      record {
        count = length-map layout.arcs _ ∙ sym is.is.long;
        admissible = record {
          -- No length is below the floor of its arc.
          high = λ k low. let some = mul-le-mul_left times (len.some k (arc_low k low)) in
              rw (entry k (arc_low k low)) (omega (arith, ints, some, mul-one times, (above k low).0));
          balanced = balanced.1 (record {
            across = λ p low. rw (along p south low, along p north low, len.across p low);
            upright = λ p low. rw (along p east low, along p west low, len.upright p low);
          });
        };
        near = λ k low.
            let inner = arc_low k low in
            let wanted : net.p * (arc_at net.arcs k).old ≡ 1 * wish layout k =
            rw (is.is.p, unit, is.is.olds k inner) in
            omega (arith, wanted, part_low (wish layout) k (length layout.arcs) inner, near, all_far, is.is.q, parts);
      }

pub start_law : StartLaw
start_law wish layout settings net is = start_at wish layout settings (given_floors settings) net is settings.floor
    (λ k low. omega (arith, is.is.floors k (omega (arith, low, is.is.long)), floor_high net is.bounds k low))
