-- Balances of the nodes of a block, one arc at a time.
use Rattle.std.proofs.Common.{◌≡◌, ℕ, ◌+◌, ◌-◌, ◌*◌, ◌^◌, ◌<◌, ◌≤◌, ◌==◌, Bool, true, false, not, ◌&&◌, cond, nat_le}
use Rattle.std.proofs.Common.{List, [], ◌∷◌, length, get_or, replicate, Option, Some, None, ℤ, pos, ◌+ℤ◌, ◌-ℤ◌, refl}
use Rattle.std.proofs.Common.{sym, ◌∙◌, ap, inl, inr, ◌⊎◌, add-one, arith}
use Rattle.std.proofs.lemmas.Bool.{cases_eq, cases_lt, cases_Bool, eq-eqb, ne_eqb, and_parts}
use Rattle.std.proofs.lemmas.List.{get_or_past, get_or_default, length-set, get_or-set_same, get_or-set_other}
use Rattle.std.proofs.lemmas.List.{length-replicate, get_or-replicate}
use Rattle.std.proofs.{lemmas.List.Sums.AllPass-from_list_all, lemmas.List.Sums.list_all-from_AllPass, lemmas.Int.ints}
use Rattle.std.proofs.{lemmas.Bool.Decides.nat_tests, lemmas.Bool.Decides.Decides-int_eq}
use Rattle.std.specs.Prelude.{slice_index, slice_index_or, slice_set, unsigned_abs, nat_lt, option_to_list}
use Rattle.std.specs.{List.list_all, Ordering.int_eq}
use Rattle.def_flow.specs.{Network.Network, Network.IsWithinBounds, Network.arc_at, Network.ends, Admissible.entries}
use Rattle.def_flow.specs.{Admissible.is_on_side, Admissible.side_sum, Admissible.IsBalanced, declared.net.Arc.Arc}
use Rattle.def_flow.specs.{declared.net.End.End}
use Rattle.qm_net.specs.Balance.{signed, weighed, weighed_right, weighed_arc, side_so_far, AreBalances, IsBlockBalanced}
use Rattle.{def_math.specs.Sums.total, sum_laws.proofs.Sums.total_below_none, qm_net.proofs.Within.arc_within}

-- What an end puts on the plus side of a node, less what it puts on the minus side.
abbrev pub effect : ℕ → ℕ → End → ℤ
effect v x e = cond (is_on_side v true e) (pos x) (pos 0) -ℤ cond (is_on_side v false e) (pos x) (pos 0)

pub weighed_length : (first : ℕ) (e : End) (x : ℕ) (bs : List ℤ) → length (weighed first e x bs) ≡ length bs
weighed_length first e x bs = by_test (nat_le first e.node && nat_lt (e.node - first) (length bs))
  where
    by_test : (b : Bool) → length
        (cond b (slice_set bs (e.node - first) (slice_index_or bs (e.node - first) (pos 0) +ℤ signed e.plus x)) bs)
        ≡ length bs
    by_test true = length-set bs (e.node - first) _
    by_test false = refl

-- At another node an end has no effect.
pub effect_none : (v x : ℕ) (e : End) → (e.node ≡ v → ⊥) → effect v x e ≡ pos 0
effect_none v x e ne = let off : (e.node == v) ≡ false = ne_eqb e.node v ne in rw off refl

-- At its own node the effect is the length with its sign.
pub effect_own : (v x : ℕ) (e : End) → e.node ≡ v → effect v x e ≡ signed e.plus x
effect_own v x e is = let on : (e.node == v) ≡ true = eq-eqb e.node v is in rw on (by_sign e.plus)
  where
    by_sign : (b : Bool) → cond b (pos x) (pos 0) -ℤ cond (not b) (pos x) (pos 0) ≡ signed b x
    by_sign true = omega (arith, ints)
    by_sign false = omega (arith, ints)

-- The balances after a length was weighed at an end.
pub weighed_read : (first : ℕ) (e : End) (x : ℕ) (bs : List ℤ) (j : ℕ) → j < length bs
    → get_or (weighed first e x bs) j (pos 0) ≡ get_or bs j (pos 0) +ℤ effect (first + j) x e
weighed_read first e x bs j l = elim (cases_eq e.node (first + j)) [ inl is ↦ here is | inr ne ↦ there ne ]
  where
    here : e.node ≡ first + j → get_or (weighed first e x bs) j (pos 0) ≡ get_or bs j (pos 0) +ℤ effect (first + j) x e
    here is =
        let inside : (nat_le first e.node && nat_lt (e.node - first) (length bs)) ≡ true = grind (arith, nat_tests) in
        let at : e.node - first ≡ j = omega arith in
        rw (inside, at, effect_own (first + j) x e is) (get_or-set_same bs j (get_or bs j (pos 0) +ℤ signed e.plus x)
        (pos 0) l)

    there : (e.node ≡ first + j → ⊥) → get_or (weighed first e x bs) j (pos 0)
        ≡ get_or bs j (pos 0) +ℤ effect (first + j) x e
    there ne = rw (effect_none (first + j) x e ne)
        (by_test (cases_Bool (nat_le first e.node && nat_lt (e.node - first) (length bs))))
      where
        by_test : ((nat_le first e.node && nat_lt (e.node - first) (length bs)) ≡ true)
            ⊎ ((nat_le first e.node && nat_lt (e.node - first) (length bs)) ≡ false)
            → get_or (weighed first e x bs) j (pos 0) ≡ get_or bs j (pos 0) +ℤ pos 0
        by_test (inl on) =
            let low : first ≤ e.node = grind (arith, nat_tests) in
            rw on (get_or-set_other bs (e.node - first) j (get_or bs (e.node - first) (pos 0) +ℤ signed e.plus x)
            (pos 0) (λ at. ne (omega arith)) ∙ omega (arith, ints))
        by_test (inr off) = rw off (omega (arith, ints))

-- What an end that may be missing puts on a node.
abbrev pub effect_right : ℕ → ℕ → Option End → ℤ
effect_right v x None = pos 0
effect_right v x (Some e) = effect v x e

pub weighed_arc_length : (first : ℕ) (a : Arc) (x : ℕ) (bs : List ℤ) → length (weighed_arc first a x bs) ≡ length bs
weighed_arc_length first a x bs = by_right a.right ∙ weighed_length first a.left x bs
  where
    by_right : (o : Option End) → length (weighed_right first o x (weighed first a.left x bs))
        ≡ length (weighed first a.left x bs)
    by_right None = refl
    by_right (Some e) = weighed_length first e x (weighed first a.left x bs)

pub weighed_arc_read : (first : ℕ) (a : Arc) (x : ℕ) (bs : List ℤ) (j : ℕ) → j < length bs
    → get_or (weighed_arc first a x bs) j (pos 0)
    ≡ get_or bs j (pos 0) +ℤ (effect (first + j) x a.left +ℤ effect_right (first + j) x a.right)
weighed_arc_read first a x bs j l = by_right a.right
  where
    one : get_or (weighed first a.left x bs) j (pos 0) ≡ get_or bs j (pos 0) +ℤ effect (first + j) x a.left
    one = weighed_read first a.left x bs j l

    by_right : (o : Option End) → get_or (weighed_right first o x (weighed first a.left x bs)) j (pos 0)
        ≡ get_or bs j (pos 0) +ℤ (effect (first + j) x a.left +ℤ effect_right (first + j) x o)
    by_right None = omega (arith, ints, one)
    by_right (Some e) = omega (
      arith,
      ints,
      one,
      weighed_read first e x (weighed first a.left x bs) j (omega (arith, weighed_length first a.left x bs)),
    )

-- What one more arc puts on both sides of a node.
pub sides_more : (arcs : List Arc) (xs : List ℕ) (v k : ℕ) → side_so_far arcs xs true v (k + 1) -ℤ side_so_far arcs xs
    false v (k + 1) ≡ (side_so_far arcs xs true v k -ℤ side_so_far arcs xs false v k) +ℤ
    (effect v (slice_index xs k) (arc_at arcs k).left +ℤ effect_right v (slice_index xs k) (arc_at arcs k).right)
sides_more arcs xs v k = rw (add-one k) (by_right (arc_at arcs k).right)
  where
    by_right : (o : Option End)
        → (side_so_far arcs xs true v k +ℤ total (λ e. cond (is_on_side v true e) (entries xs k) (pos 0))
        ((arc_at arcs k).left ∷ option_to_list o)) -ℤ
        (side_so_far arcs xs false v k +ℤ total (λ e. cond (is_on_side v false e) (entries xs k) (pos 0))
        ((arc_at arcs k).left ∷ option_to_list o))
        ≡ (side_so_far arcs xs true v k -ℤ side_so_far arcs xs false v k) +ℤ
        (effect v (slice_index xs k) (arc_at arcs k).left +ℤ effect_right v (slice_index xs k) o)
    by_right None = omega (arith, ints)
    by_right (Some e) = omega (arith, ints)

-- An effect is no greater than the length.
pub effect_small : (v x : ℕ) (e : End) → unsigned_abs (effect v x e) ≤ x
effect_small v x e = elim (cases_eq e.node v) [
  | inl is ↦ rw (effect_own v x e is) (by_sign e.plus)
  | inr ne ↦ rw (effect_none v x e ne) (omega (arith, ints))
]
  where
    by_sign : (b : Bool) → unsigned_abs (signed b x) ≤ x
    by_sign true = omega (arith, ints)
    by_sign false = omega (arith, ints)

pub effect_right_small : (v x : ℕ) (o : Option End) → unsigned_abs (effect_right v x o) ≤ x
effect_right_small v x None = omega (arith, ints)
effect_right_small v x (Some e) = effect_small v x e

-- One arc more.
pub balances_more : (arcs : List Arc) (xs : List ℕ) (first k : ℕ) (bs : List ℤ) → slice_index xs k ≤ 10 ^ 12
    → AreBalances arcs xs first k bs
    → AreBalances arcs xs first (k + 1) (weighed_arc first (arc_at arcs k) (slice_index xs k) bs)
balances_more arcs xs first k bs short are = record {
  count = weighed_arc_length first (arc_at arcs k) (slice_index xs k) bs ∙ are.count;
  each = λ j l. omega (
    arith,
    ints,
    weighed_arc_read first (arc_at arcs k) (slice_index xs k) bs j (omega (arith, are.count)),
    are.each j l,
    sides_more arcs xs (first + j) k,
  );
  small = small;
}
  where
    small : (j : ℕ) → unsigned_abs (get_or (weighed_arc first (arc_at arcs k) (slice_index xs k) bs) j (pos 0))
        ≤ (k + 1) * (2 * 10 ^ 12)
    small j = elim (cases_lt j (length bs)) [
      | inl l ↦ omega (
        arith,
        ints,
        weighed_arc_read first (arc_at arcs k) (slice_index xs k) bs j l,
        are.small j,
        effect_small (first + j) (slice_index xs k) (arc_at arcs k).left,
        effect_right_small (first + j) (slice_index xs k) (arc_at arcs k).right,
      )
      | inr h ↦ omega (
        arith,
        ap unsigned_abs (get_or_past (weighed_arc first (arc_at arcs k) (slice_index xs k) bs) j
            (pos 0) (omega (arith, weighed_arc_length first (arc_at arcs k) (slice_index xs k) bs))),
      )
    ]

-- No arc puts anything anywhere.
pub balances_none : (arcs : List Arc) (xs : List ℕ) (first : ℕ) (bs : List ℤ) → bs ≡ replicate 2048 (pos 0)
    → AreBalances arcs xs first 0 bs
balances_none arcs xs first bs is = record {
  count = ap length is ∙ length-replicate 2048 (pos 0);
  each = λ j l. zeros j;
  small = λ j. omega (arith, ap unsigned_abs (zeros j));
}
  where
    zeros : (j : ℕ) → get_or bs j (pos 0) ≡ pos 0
    zeros j = ap (λ l. get_or l j (pos 0)) is ∙ by_place (cases_lt j 2048)
      where
        by_place : (j < 2048) ⊎ (2048 ≤ j) → get_or (replicate 2048 (pos 0)) j (pos 0) ≡ pos 0
        by_place (inl l) = get_or-replicate 2048 j (pos 0) (pos 0) l
        by_place (inr h) = get_or_past (replicate 2048 (pos 0)) j (pos 0) (omega (arith, length-replicate 2048 (pos 0)))

-- Past the nodes nothing is put on either side.
pub no_side_past : (net : Network) → IsWithinBounds net → (xs : List ℕ) (plus : Bool) (v : ℕ) → net.nodes ≤ v
    → side_sum net.arcs (entries xs) plus v ≡ pos 0
no_side_past net within xs plus v past =
    total_below_none _ (length net.arcs) (λ k l. none k (ends (arc_at net.arcs k)) (arc_within within l).ends)
  where
    none : (k : ℕ) (es : List End) → list_all (λ (e : End). nat_lt e.node net.nodes) es ≡ true
        → total (λ e. cond (is_on_side v plus e) (entries xs k) (pos 0)) es ≡ pos 0
    none k [] on = refl
    none k (e ∷ es) on =
        let both : (nat_lt e.node net.nodes ≡ true) × (list_all (λ (f : End). nat_lt f.node net.nodes) es ≡ true) =
        and_parts (nat_lt e.node net.nodes) (list_all (λ (f : End). nat_lt f.node net.nodes) es) on in
        let low : e.node < net.nodes = grind (arith, nat_tests) in
        let off : (e.node == v) ≡ false = ne_eqb e.node v (λ is. omega arith) in
        let rest : total (λ e. cond (is_on_side v plus e) (entries xs k) (pos 0)) es ≡ pos 0 = none k es both.1 in
        rw off (omega (arith, ints, rest))

-- Nodes that are balanced in all blocks are balanced.
pub balanced_everywhere : (net : Network) → IsWithinBounds net → (xs : List ℕ) (end : ℕ) → net.nodes ≤ end
    → IsBlockBalanced net.arcs xs 0 end → IsBalanced net.arcs (entries xs)
balanced_everywhere net within xs end far block v = elim (cases_lt v end) [
  | inl l ↦ block v (omega arith) l
  | inr h ↦ no_side_past net within xs true v (omega arith) ∙ sym (no_side_past net within xs false v (omega arith))
]

-- Balances are all zero exactly if the block is balanced.
pub balanced_by_zeros : (arcs : List Arc) (xs : List ℕ) (first : ℕ) (bs : List ℤ) → AreBalances arcs xs first
    (length arcs) bs → list_all (λ z. int_eq z (pos 0)) bs ≡ true → IsBlockBalanced arcs xs first (first + 2048)
balanced_by_zeros arcs xs first bs are on v low high =
    let place : first + (v - first) ≡ v = omega arith in
    let inner : v - first < 2048 = omega arith in
    let zero_there : get_or bs (v - first) (pos 0) ≡ pos 0 = (Decides-int_eq (get_or bs (v - first) (pos 0)) (pos 0)).0
    (AllPass-from_list_all (λ z. int_eq z (pos 0)) bs on (v - first) (pos 0) (omega (arith, are.count))) in
    let sums : get_or bs (v - first) (pos 0) ≡ side_sum arcs (entries xs) true v -ℤ side_sum arcs (entries xs) false v =
    are.each (v - first) inner ∙ ap (λ i. side_sum arcs (entries xs) true i -ℤ side_sum arcs (entries xs) false i)
    place in
    omega (arith, ints, zero_there, sums)

pub zeros_by_balanced : (arcs : List Arc) (xs : List ℕ) (first : ℕ) (bs : List ℤ) → AreBalances arcs xs first
    (length arcs) bs → IsBlockBalanced arcs xs first (first + 2048) → list_all (λ z. int_eq z (pos 0)) bs ≡ true
zeros_by_balanced arcs xs first bs are balanced = list_all-from_AllPass (λ z. int_eq z (pos 0)) bs each
  where
    each : (j : ℕ) (d : ℤ) → j < length bs → int_eq (get_or bs j d) (pos 0) ≡ true
    each j d l =
        let inner : j < 2048 = omega (arith, are.count) in
        let same : get_or bs j d ≡ get_or bs j (pos 0) = get_or_default bs j d (pos 0) l in
        let even : side_sum arcs (entries xs) true (first + j) ≡ side_sum arcs (entries xs) false (first + j) =
        balanced (first + j) (omega arith) (omega arith) in
        let zero_there : get_or bs j d ≡ pos 0 = omega (arith, ints, same, even, are.each j inner) in
        (Decides-int_eq (get_or bs j d) (pos 0)).1 zero_there
