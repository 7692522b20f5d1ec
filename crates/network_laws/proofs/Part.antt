-- The walk law: a tour through the copies of a difference is a small part of it.
use Rattle.std.proofs.Common.{rules, ◌≡◌, ℕ, ◌<◌, Bool, true, false, cond, List, [], ◌∷◌, length, ℤ, pos, ◌+ℤ◌, ◌-ℤ◌}
use Rattle.std.proofs.Common.{refl, ◌∙◌, ap, arith, ◌≢◌, ◌≤◌, not, option_to_list, Option, Some, None, negsuc, neg_ℤ}
use Rattle.std.proofs.Common.{unsigned_abs, sym, inl, inr, eq-eqb, zero, suc, ◌+◌, ◌*◌, ◌*ℤ◌, ◌≤ℤ◌, ◌⊎◌}
use Rattle.std.proofs.{Common.mul-le-mul_left, Common.mul-add, lemmas.Bool.cases_lt, lemmas.Bool.cases_eq}
use Rattle.sum_laws.proofs.Sums.{total_below_same, total_below_sum, total_below_minus, total_below_none, integers}
use Rattle.sum_laws.proofs.Sums.{times_sum, count_below_same, count_below_sum, count_below_le, count_below_lt}
use Rattle.def_flow.specs.Admissible.{is_on_side, side_sum, IsBalanced, IsAdmissible, arc_deviation, deviation}
use Rattle.def_flow.specs.{declared.net.Arc.Arc, declared.net.End.End, Nearby.IsPart, Nearby.IsSmallPart}
use Rattle.def_flow.specs.Network.{ends, arc_at, Network}
use Rattle.network_laws.proofs.Walk.{Tour, IsEvenOut, arc_weight, uses, tour, tour_even, at_most_twice}
use Rattle.{network_laws.proofs.Ports.Port, network_laws.proofs.Ports.weigh, def_math.specs.Sums.total}
use Rattle.{def_math.specs.Sums.total_below, def_math.specs.Counts.count_below}

-- The ends of an arc on a side take the sum of two entries as the sum of what they take of each.
ends_sum : (v : ℕ) (plus : Bool) (x y : ℤ) (es : List End) → total (λ e. cond (is_on_side v plus e) (x +ℤ y) (pos 0)) es
    ≡ total (λ e. cond (is_on_side v plus e) x (pos 0)) es +ℤ total (λ e. cond (is_on_side v plus e) y (pos 0)) es
ends_sum v plus x y [] = refl
ends_sum v plus x y (e ∷ es) =
    let by_test : (b : Bool) → cond b (x +ℤ y) (pos 0) ≡ cond b x (pos 0) +ℤ cond b y (pos 0) = λ b. grind integers in
    omega (integers, by_test (is_on_side v plus e), ends_sum v plus x y es)

-- The sums on a side depend on the entries of the arcs alone.
pub same_sides : (arcs : List Arc) (x y : ℕ → ℤ) → ((k : ℕ) → k < length arcs → x k ≡ y k) → (plus : Bool) (v : ℕ)
    → side_sum arcs x plus v ≡ side_sum arcs y plus v
same_sides arcs x y same plus v = search (rules, total_below_same)

sides_sum : (arcs : List Arc) (x y : ℕ → ℤ) (plus : Bool) (v : ℕ)
    → side_sum arcs (λ k. x k +ℤ y k) plus v ≡ side_sum arcs x plus v +ℤ side_sum arcs y plus v
sides_sum arcs x y plus v =
    let at : (ℕ → ℤ) → ℕ → ℤ = λ z k. total (λ e. cond (is_on_side v plus e) (z k) (pos 0)) (ends (arc_at arcs k)) in
    total_below_same (at (λ k. x k +ℤ y k)) (λ k. at x k +ℤ at y k) (length arcs)
    (λ k l. ends_sum v plus (x k) (y k) (ends (arc_at arcs k))) ∙ total_below_sum (at x) (at y) (length arcs)

-- The sum of two balanced lists is balanced.
pub balanced_sum : (arcs : List Arc) (x y : ℕ → ℤ) → IsBalanced arcs x → IsBalanced arcs y
    → IsBalanced arcs (λ k. x k +ℤ y k)
balanced_sum arcs x y bx by v = omega (integers, sides_sum arcs x y true v, sides_sum arcs x y false v, bx v, by v)

-- The difference of two balanced lists is balanced.
pub balanced_minus : (arcs : List Arc) (x y : ℕ → ℤ) → IsBalanced arcs x → IsBalanced arcs y
    → IsBalanced arcs (λ k. x k -ℤ y k)
balanced_minus arcs x y bx by v =
    let side : (plus : Bool) → side_sum arcs x plus v ≡ side_sum arcs (λ k. x k -ℤ y k) plus v +ℤ side_sum arcs y plus
    v = λ plus. same_sides arcs x _ (λ k l. omega integers) _ v ∙ sides_sum arcs _ y _ v in
    omega (integers, side true, side false, bx v, by v)

-- Whether a difference goes up, and m with its sign.
abbrev goes_up : ℤ → Bool
goes_up (pos n) = true
goes_up (negsuc n) = false

abbrev signed : Bool → ℕ → ℤ
signed up m = cond up (pos m) (neg_ℤ (pos m))

-- The effect of an end on its node, where its arc goes up or down.
abbrev effect : Bool → End → Port
effect up e = record { node = e.node; up = cond up e.plus (not e.plus) }

abbrev effect_of : Bool → Option End → Option Port
effect_of up None = None
effect_of up (Some e) = Some (effect up e)

-- What an end adds on the plus side less what it adds on the minus side is what its effect weighs.
end_weighs : (v : ℕ) (up : Bool) (m : ℕ) (e : End) → cond (is_on_side v true e) (signed up m) (pos 0) -ℤ cond
    (is_on_side v false e) (signed up m) (pos 0) ≡ weigh (record { node = v; up = true }) (Some (effect up e)) (pos m)
end_weighs v up m e = grind integers

-- The same for both ends of an arc.
arc_weighs : (v : ℕ) (up : Bool) (m : ℕ) (left : End) (right : Option End) → total (λ e. cond (is_on_side v true e)
    (signed up m) (pos 0)) (left ∷ option_to_list right) -ℤ total (λ e. cond (is_on_side v false e) (signed up m)
    (pos 0)) (left ∷ option_to_list right) ≡ weigh (record { node = v; up = true }) (Some (effect up left)) (pos m)
    +ℤ weigh (record { node = v; up = true }) (effect_of up right) (pos m)
arc_weighs v up m left None = omega (integers, end_weighs v up m left)
arc_weighs v up m left (Some right) = omega (integers, end_weighs v up m left, end_weighs v up m right)

-- The other effect at the same node weighs the opposite.
weigh_down : (v : ℕ) (q : Option Port) (m : ℤ) → weigh (record { node = v; up = false }) q m
    ≡ pos 0 -ℤ weigh (record { node = v; up = true }) q m
weigh_down v None m = refl
weigh_down v (Some q) m = grind integers

-- What is not zero is at least 1 away from it.
pub abs_some : (z : ℤ) → z ≢ pos 0 → 0 < unsigned_abs z
abs_some z ne = elim (cases_lt 0 (unsigned_abs z)) [ inl l ↦ l | inr none ↦ absurd (ne (omega integers)) ]

module _ (arcs : List Arc) (d : ℕ → ℤ) where
  left : ℕ → Option Port
  left k = Some (effect (goes_up (d k)) (arc_at arcs k).left)

  right : ℕ → Option Port
  right k = effect_of (goes_up (d k)) (arc_at arcs k).right

  -- The sides of a node differ by what the copies weigh.
  sides_weigh : (m : ℕ → ℕ) (v : ℕ) → side_sum arcs (λ k. signed (goes_up (d k)) (m k)) true v -ℤ side_sum arcs
      (λ k. signed (goes_up (d k)) (m k)) false v
      ≡ total_below (λ k. arc_weight left right (record { node = v; up = true }) k (pos (m k))) (length arcs)
  unfolding left right
  sides_weigh m v =
      sym (total_below_minus _ _ (length arcs)) ∙ total_below_same _ _ (length arcs) (λ k l. arc_weighs v _ _ _ _)

  -- The copies of a balanced difference are even for each effect.
  even_out : IsBalanced arcs d → IsEvenOut left right (length arcs) (λ k. unsigned_abs (d k))
  even_out balanced p = by_up p.node p.up
    where
      weights : Bool → ℕ → ℕ → ℤ
      weights up v k = arc_weight left right (record { node = v; up = up }) k (pos (unsigned_abs (d k)))

      up_even : (v : ℕ) → total_below (weights true v) (length arcs) ≡ pos 0
      up_even v = omega (
        integers,
        sides_weigh (λ k. unsigned_abs (d k)) v,
        balanced v,
        same_sides arcs (λ k. signed (goes_up (d k)) (unsigned_abs (d k))) d (λ k l. grind integers) true v,
        same_sides arcs (λ k. signed (goes_up (d k)) (unsigned_abs (d k))) d (λ k l. grind integers) false v,
      )

      by_up : (v : ℕ) (up : Bool) → total_below (weights up v) (length arcs) ≡ pos 0
      by_up v true = up_even v
      by_up v false = omega (
        integers,
        total_below_none (λ k. weights false v k +ℤ weights true v k) (length arcs) (λ k l. omega (
          integers,
          weigh_down v (left k) (pos (unsigned_abs (d k))),
          weigh_down v (right k) (pos (unsigned_abs (d k))),
        )),
        total_below_sum (weights false v) (weights true v) (length arcs),
        up_even v,
      )

  -- So much of a difference, with its sign, is a part of it.
  part_of : (z : ℤ) (m : ℕ) → m ≤ unsigned_abs z → IsPart (signed (goes_up z) m) z
  part_of (pos n) m le = inl (omega integers, omega integers)
  part_of (negsuc n) m le = inr (omega integers, omega integers)

  abs_signed : (up : Bool) (m : ℕ) → unsigned_abs (signed up m) ≡ m
  abs_signed up m = grind integers

-- The walk law.
pub walk_law : (net : Network) (x other : ℕ → ℤ) (k : ℕ) → IsAdmissible net x → IsAdmissible net other
    → k < length net.arcs → x k ≢ other k → (change : ℕ → ℤ) × IsSmallPart net x other change
walk_law net x other k ax ao l differ =
    let d : ℕ → ℤ = λ j. other j -ℤ x j in
    let t : Tour (left net.arcs d) (right net.arcs d) (length net.arcs) (λ j. unsigned_abs (d j)) = tour _ _ _ _
    (even_out net.arcs d (balanced_minus net.arcs _ x ao.balanced ax.balanced)) k l
    (abs_some (d k) (λ e. differ (omega integers))) in
    let used : ℕ → ℕ = λ j. uses j (t.first ∷ t.others) in
    let some : 1 ≤ used t.first.arc = rw (eq-eqb t.first.arc t.first.arc refl) (omega arith) in (
      λ j. signed (goes_up (d j)) (used j),
      record {
        part = λ j lj. part_of net.arcs d _ _ (t.within j);
        small = search (rules, abs_signed, at_most_twice);
        balanced = λ v. omega (
          integers,
          sides_weigh net.arcs d used v,
          tour_even _ _ _ _ t (record { node = v; up = true }),
        );
        place = t.first.arc;
        within = t.low.0;
        nonzero = λ e. (let zero_used : unsigned_abs (signed (goes_up (d t.first.arc)) (used t.first.arc)) ≡ 0 =
            ap unsigned_abs e in
            omega (arith, zero_used, some, abs_signed net.arcs d (goes_up (d t.first.arc)) (used t.first.arc)));
      },
    )

-- The lift law: the deviation is convex, so a small part of the way to a better list is better, or the rest is.

-- A factor keeps the order.
times_le : (q : ℕ) (a b : ℤ) → a ≤ℤ b → (pos q *ℤ a) ≤ℤ (pos q *ℤ b)
times_le zero a b le = omega integers
times_le (suc q) a b le = omega (integers, le, times_le q a b le)

-- A part stays a part when both are multiplied.
part_times : (q : ℕ) (c d : ℤ) → IsPart c d → IsPart (pos q *ℤ c) (pos q *ℤ d)
part_times q c d (inl (low, high)) = search (rules, times_le)
part_times q c d (inr (low, high)) = inr (times_le q d c low, search rules)

-- The distance from a point is convex.
abs_convex : (x c d : ℤ) → IsPart c d → unsigned_abs (x +ℤ c) + unsigned_abs ((x +ℤ d) -ℤ c)
    ≤ unsigned_abs x + unsigned_abs (x +ℤ d)
abs_convex x c d part = elim part [ inl h ↦ omega integers | inr h ↦ omega integers ]

-- The deviation of an arc is convex.
pub arc_convex : (net : Network) (a : Arc) (x other c : ℤ) → IsPart c (other -ℤ x) → arc_deviation net a (x +ℤ c)
    + arc_deviation net a (other -ℤ c) ≤ arc_deviation net a x + arc_deviation net a other
arc_convex net a x other c part =
    let t : ℤ = pos (net.p * a.old) in
    let times : ℤ → ℤ = λ y. pos net.q *ℤ y in
    let far : times other ≡ times x +ℤ times (other -ℤ x) = (let e : other ≡ x +ℤ (other -ℤ x) = omega integers in
    ap times e ∙ times_sum (pos net.q) x (other -ℤ x)) in
    let rest : times other ≡ times (other -ℤ c) +ℤ times c = (let e : other ≡ (other -ℤ c) +ℤ c = omega integers in
    ap times e ∙ times_sum (pos net.q) (other -ℤ c) c) in
    let first : (times x -ℤ t) +ℤ times c ≡ times (x +ℤ c) -ℤ t = omega (integers, times_sum (pos net.q) x c) in
    let second : ((times x -ℤ t) +ℤ times (other -ℤ x)) -ℤ times c ≡ times (other -ℤ c) -ℤ t =
    omega (integers, far, rest) in
    let third : (times x -ℤ t) +ℤ times (other -ℤ x) ≡ times other -ℤ t = omega (integers, far) in
    let shifted : unsigned_abs (times (x +ℤ c) -ℤ t) + unsigned_abs (times (other -ℤ c) -ℤ t)
    ≤ unsigned_abs (times x -ℤ t) + unsigned_abs (times other -ℤ t) = omega (
      arith,
      abs_convex (times x -ℤ t) (times c) (times (other -ℤ x)) (part_times net.q c (other -ℤ x) part),
      ap unsigned_abs first,
      ap unsigned_abs second,
      ap unsigned_abs third,
    ) in
    omega (
      arith,
      mul-le-mul_left a.weight shifted,
      mul-add a.weight (unsigned_abs ((pos net.q *ℤ (x +ℤ c)) -ℤ t)) (unsigned_abs ((pos net.q *ℤ (other -ℤ c)) -ℤ t)),
      mul-add a.weight (unsigned_abs ((pos net.q *ℤ x) -ℤ t)) (unsigned_abs ((pos net.q *ℤ other) -ℤ t)),
    )

-- Taking a part of the way from one list, and leaving it off the way to the other, costs nothing together.
deviation_convex : (net : Network) (x other c : ℕ → ℤ) → ((k : ℕ) → k < length net.arcs → IsPart (c k) (other k -ℤ x k))
    → deviation net (λ k. x k +ℤ c k) + deviation net (λ k. other k -ℤ c k) ≤ deviation net x + deviation net other
deviation_convex net x other c part =
    let n = length net.arcs in
    let at : (ℕ → ℤ) → ℕ → ℕ = λ y k. arc_deviation net (arc_at net.arcs k) (y k) in
    omega (
      arith,
      count_below_sum (at (λ k. x k +ℤ c k)) (at (λ k. other k -ℤ c k)) n,
      count_below_sum (at x) (at other) n,
      count_below_le _ _ n (λ k l. arc_convex net (arc_at net.arcs k) (x k) (other k) (c k) (part k l)),
    )

-- Two lists differ at some arc, or at none.
differ_or_not : (x y : ℕ → ℤ) (n : ℕ) → ((k : ℕ) × (k < n) × (x k ≢ y k)) ⊎ ((k : ℕ) → k < n → x k ≡ y k)
differ_or_not x y zero = inr (λ k l. absurd (omega arith))
differ_or_not x y (suc n) = elim (differ_or_not x y n) [
  | inl (k, l, ne) ↦ inl (k, omega arith, ne)
  | inr same ↦ elim (cases_eq (unsigned_abs (x n -ℤ y n)) 0) [
    | inr ne ↦ inl (n, omega arith, λ e. ne (let z : x n -ℤ y n ≡ pos 0 = omega (integers, e) in ap unsigned_abs z))
    | inl e ↦ search rules
  ]
]

-- A list with a part of the way to another one taken is as high as the floor, and so is the other without it.
part_high : (floor x other c : ℤ) → floor ≤ℤ x → floor ≤ℤ other → IsPart c (other -ℤ x) → (floor ≤ℤ (x +ℤ c))
    × (floor ≤ℤ (other -ℤ c))
part_high floor x other c hx ho (inl (low, high)) = (omega integers, omega integers)
part_high floor x other c hx ho (inr (low, high)) = (omega integers, omega integers)

-- The other list without a part of the way is nowhere further, and nearer where the part is not zero.
part_nearer : (x other c : ℤ) → IsPart c (other -ℤ x) → unsigned_abs ((other -ℤ c) -ℤ x) + unsigned_abs c
    ≤ unsigned_abs (other -ℤ x)
part_nearer x other c part = elim part [ inl h ↦ omega integers | inr h ↦ omega integers ]

-- A better list near x.
abbrev Near : Network → (ℕ → ℤ) → Type 0
Near net x = (near : ℕ → ℤ) × IsAdmissible net near × ((k : ℕ) → k < length net.arcs → unsigned_abs (near k -ℤ x k) ≤ 2)
    × (deviation net near < deviation net x)

-- How far two lists are apart.
abbrev distance : Network → (ℕ → ℤ) → (ℕ → ℤ) → ℕ
distance net x other = count_below (λ k. unsigned_abs (other k -ℤ x k)) (length net.arcs)

-- Either a better list is near, or some better list is nearer than this one.
nearer : (net : Network) (x other : ℕ → ℤ) → IsAdmissible net x → IsAdmissible net other
    → deviation net other < deviation net x → ((o : ℕ → ℤ) → IsAdmissible net o → deviation net o < deviation net x
    → distance net x o < distance net x other → Near net x) → Near net x
nearer net x other ax ao better on = elim (differ_or_not x other (length net.arcs)) [
  | inr same ↦ absurd (omega (
    arith,
    count_below_same (λ k. arc_deviation net (arc_at net.arcs k) (x k)) _ (length net.arcs)
        (λ k l. ap (arc_deviation net (arc_at net.arcs k)) (same k l)),
  ))
  | inl (place, inside, differ) ↦
      let (c, p) = walk_law _ x other _ ax ao inside differ in
      let high = λ (k : ℕ) (l : k < length net.arcs). part_high (pos (arc_at net.arcs k).floor) _ (other k) _
      (ax.high k l) (ao.high k l) (p.part k l) in
      elim (cases_lt (deviation net (λ k. x k +ℤ c k)) (deviation net x)) [
        | inl here ↦ (
          λ k. x k +ℤ c k,
          record { high = λ k l. (high k l).0; balanced = balanced_sum net.arcs x c ax.balanced p.balanced },
          λ k l. (let e : (x k +ℤ c k) -ℤ x k ≡ c k = omega integers in rw e (p.small k l)),
          here,
        )
        | inr not_here ↦ on (λ k. other k -ℤ c k)
            (record { high = λ k l. (high k l).1; balanced = balanced_minus net.arcs other c ao.balanced p.balanced })
            (omega (arith, deviation_convex net x _ c p.part))
            (count_below_lt (λ k. unsigned_abs ((other k -ℤ c k) -ℤ x k)) _
            (length net.arcs) _ p.within (λ k l. omega (arith, part_nearer (x k) _ (c k) (p.part k l)))
            (omega (arith, part_nearer _ (other p.place) _ (p.part p.place p.within), abs_some (c p.place) p.nonzero)))
      ]
]

lift_within : (fuel : ℕ) (net : Network) (x other : ℕ → ℤ) → IsAdmissible net x → IsAdmissible net other
    → deviation net other < deviation net x → distance net x other ≤ fuel → Near net x
lift_within zero net x other ax ao better within = nearer net x other ax ao better (λ o a b less. absurd (omega arith))
lift_within (suc fuel) net x other ax ao better within =
    nearer net x other ax ao better (λ o a b less. lift_within fuel net x o ax a b (omega arith))

-- The lift law.
pub lift_law : (net : Network) (x other : ℕ → ℤ) → IsAdmissible net x → IsAdmissible net other
    → deviation net other < deviation net x → Near net x
lift_law net x other ax ao better = lift_within (distance net x other) net x other ax ao better (omega arith)
