-- A walk through copies of arcs: it goes on from each port by an unused copy, until a port comes again.
use Rattle.std.proofs.Common.{rules, ◌≡◌, ◌≢◌, ℕ, zero, suc, ◌+◌, ◌-◌, ◌<◌, ◌≤◌, Bool, true, false, cond, not, ◌==◌}
use Rattle.std.proofs.Common.{List, [], ◌∷◌, Option, Some, None, ℤ, pos, ◌+ℤ◌, ◌-ℤ◌, ◌<ℤ◌, refl, sym, ◌∙◌, ap, inl, inr}
use Rattle.std.proofs.Common.{◌⊎◌, true≢false, arith, eq-eqb, ne_eqb}
use Rattle.std.proofs.lemmas.Bool.{cases_eq, cases_Bool}
use Rattle.def_math.specs.{Sums.total, Sums.total_below, Counts.count, Counts.count_below}
use Rattle.sum_laws.proofs.Sums.{total_below_sum, total_below_same, total_below_none, total_below_one, integers}
use Rattle.sum_laws.proofs.Sums.{cases_neg, some_below, count_below_lt}
use Rattle.network_laws.proofs.Ports.{Port, opposite, weigh, is_same, weigh_opposite, weigh_sum, weigh_none}
use Rattle.network_laws.proofs.Ports.{weigh_self, weigh_other, weigh_low}

-- A step along an arc, from its left end to its right one or back.
pub record Step : Type 0 where
  pub arc : ℕ
  pub back : Bool

-- How often an arc is used.
abbrev pub uses : ℕ → List Step → ℕ
uses k l = count (λ s. cond (s.arc == k) 1 0) l

-- The arcs used are numbers below n.
abbrev pub IsLow : ℕ → List Step → Type 0
IsLow n [] = Unit {0}
IsLow n (s ∷ l) = (s.arc < n) × IsLow n l

module _ (left right : ℕ → Option Port) where
  abbrev pub tail : Step → Option Port
  tail s = cond s.back (right s.arc) (left s.arc)

  abbrev pub head : Step → Option Port
  head s = cond s.back (left s.arc) (right s.arc)

  -- How often a port is reached.
  abbrev pub visits : Option Port → List Step → ℕ
  visits q l = count (λ s. cond (is_same q (head s)) 1 0) l

  -- What the steps weigh for an effect.
  abbrev pub gain : Port → List Step → ℤ
  gain p l = total (λ s. weigh p (tail s) (pos 1) +ℤ weigh p (head s) (pos 1)) l

  -- The steps, the newest first, lead from a port to another: each leaves with the effect opposite to that with
  -- which the one before it arrived.
  abbrev pub IsPath : Option Port → List Step → Option Port → Type 0
  IsPath a [] p = a ≡ p
  IsPath a (s ∷ l) p = IsPath a l (opposite (tail s)) × (head s ≡ p)

  -- A path weighs what its end weighs, less what its start does.
  pub telescope : (p : Port) (a r : Option Port) (l : List Step) → IsPath a l r
      → gain p l ≡ weigh p r (pos 1) -ℤ weigh p a (pos 1)
  telescope p a r [] path = let e : weigh p a (pos 1) ≡ weigh p r (pos 1) = ap (λ q. weigh p q (pos 1)) path in
      omega (integers, e)
  telescope p a r (s ∷ l) path =
      let e : weigh p (head s) (pos 1) ≡ weigh p r (pos 1) = ap (λ q. weigh p q (pos 1)) path.1 in
      omega (integers, e, telescope p a (opposite (tail s)) l path.0, weigh_opposite p (tail s) (pos 1))

  -- What so many copies of an arc weigh.
  abbrev pub arc_weight : Port → ℕ → ℤ → ℤ
  arc_weight p k m = weigh p (left k) m +ℤ weigh p (right k) m

  arc_sum : (p : Port) (k : ℕ) (m o : ℤ) → arc_weight p k (m +ℤ o) ≡ arc_weight p k m +ℤ arc_weight p k o
  arc_sum p k m o = omega (integers, weigh_sum p (left k) m o, weigh_sum p (right k) m o)

  -- A step weighs what its arc weighs.
  one_way : (p : Port) (s : Step) → weigh p (tail s) (pos 1) +ℤ weigh p (head s) (pos 1) ≡ arc_weight p s.arc (pos 1)
  one_way p s = grind integers

  -- The steps weigh what the uses of the arcs weigh.
  pub used_sum : (n : ℕ) (p : Port) (l : List Step) → IsLow n l
      → total_below (λ k. arc_weight p k (pos (uses k l))) n ≡ gain p l
  used_sum n p [] low = total_below_none _ n (λ k lk. omega (integers, weigh_none p (left k), weigh_none p (right k)))
  used_sum n p (s ∷ l) low =
      let one : ℕ → ℤ = λ k. arc_weight p k (pos (cond (s.arc == k) 1 0)) in
      let rest : ℕ → ℤ = λ k. arc_weight p k (pos (uses k l)) in
      let here : one s.arc ≡ arc_weight p s.arc (pos 1) = rw (eq-eqb s.arc s.arc refl) refl in
      omega (
        integers,
        total_below_same _ _ n (λ k lk. arc_sum p k (pos (cond (s.arc == k) 1 0)) (pos (uses k l))),
        total_below_sum one rest n,
        here,
        total_below_one one n s.arc low.0 (λ k lk ne. rw (ne_eqb s.arc k (λ e. ne (sym e)))
            (omega (integers, weigh_none p (left k), weigh_none p (right k)))),
        used_sum n p l low.1,
        one_way p s,
      )

  -- What is left of a path since it reached a port last.
  record Since (n : ℕ) (q : Option Port) (l : List Step) (r : Option Port) : Type 0 where
    part : List Step
    path : IsPath q part r
    low : IsLow n part
    visited : (t : Option Port) → visits t part ≤ visits t l
    fewer : visits q part + 1 ≤ visits q l
    used : (k : ℕ) → uses k part ≤ uses k l

  since : (n : ℕ) (q a : Option Port) (l : List Step) (r : Option Port) → IsPath a l r → IsLow n l → 1 ≤ visits q l
      → Since n q l r
  since n q a [] r path low some = absurd (omega arith)
  since n q a (s ∷ l) r path low some = elim (cases_Bool (is_same q (head s))) [
    | inl e ↦ search rules
    | inr e ↦
        let later : 1 ≤ cond false 1 0 + visits q l = rw e at some in
        let further : Since n q l (opposite (tail s)) → Since n q (s ∷ l) r = λ h. record {
          part = s ∷ h.part;
          path = (h.path, path.1);
          low = (low.0, h.low);
          visited = λ t. omega (arith, h.visited t);
          fewer = rw e (omega (arith, h.fewer));
          used = λ k. omega (arith, h.used k);
        } in
        further (since n q a l (opposite (tail s)) path.0 low.1 (omega arith))
  ]

  -- A step back along its arc begins where the step ends.
  turned : (s : Step) → tail (record { arc = s.arc; back = not s.back }) ≡ head s
  turned s = grind (arith)

  -- Two ports that differ, in the other order.
  differ_flip : (a q p : Option Port) → q ≡ p → is_same a q ≡ false → is_same p a ≡ false
  differ_flip a q p e off = search rules

  module _ (n : ℕ) (copies : ℕ → ℕ) where
    -- A closed walk through copies of the arcs below n: it reaches no port twice.
    pub record Tour : Type 0 where
      pub port : Option Port
      pub first : Step
      pub others : List Step
      pub path : IsPath port (first ∷ others) port
      pub once : (q : Option Port) → visits q (first ∷ others) ≤ 1
      pub within : (k : ℕ) → uses k (first ∷ others) ≤ copies k
      pub low : IsLow n (first ∷ others)

    -- The copies of each arc weigh nothing together, for each effect.
    abbrev pub IsEvenOut : Type 0
    IsEvenOut = (p : Port) → total_below (λ k. arc_weight p k (pos (copies k))) n ≡ pos 0

    -- Where a path from another port arrives, some unused copy goes on.
    record Onward (l : List Step) (p : Port) : Type 0 where
      step : Step
      within : step.arc < n
      leaves : opposite (tail step) ≡ Some p
      unused : uses step.arc l < copies step.arc

    onward : IsEvenOut → (a : Option Port) (l : List Step) (p : Port) → IsPath a l (Some p) → IsLow n l
        → ((k : ℕ) → uses k l ≤ copies k) → is_same (Some p) a ≡ false → Onward l p
    onward even a l p path low within open_end =
        let (k, lk, neg) = some_below (λ k. arc_weight p k (left_over k)) n (omega (
          integers,
          total_below_same (λ k. arc_weight p k (pos (copies k))) _ n
              (λ k lk. (let whole : pos (copies k) ≡ left_over k +ℤ pos (uses k l) = omega integers in
              ap (arc_weight p k) whole ∙ arc_sum p k (left_over k) _)),
          total_below_sum (λ k. arc_weight p k (left_over k)) (λ k. arc_weight p k (pos (uses k l))) n,
          even p,
          used_sum n p l low,
          telescope p a (Some p) l path,
          weigh_self p,
          weigh_other p a open_end,
        )) in
        elim (cases_neg _) [ inl at_left ↦ by k false lk at_left | inr other ↦ by k true lk (omega integers) ]
      where
        left_over : ℕ → ℤ
        left_over k = pos (copies k) -ℤ pos (uses k l)

        by : (k : ℕ) (back : Bool) → k < n → weigh p (cond back (right k) (left k)) (left_over k) <ℤ pos 0 → Onward l p
        by k back lk low_there =
            let h = weigh_low p (cond back (right k) (left k)) _ (omega (integers, within k)) low_there in
            record { step = record { arc = k; back = back }; within = lk; leaves = h.0; unused = omega (integers, h.1) }

    -- A path and a step that goes on from it, with no port reached twice so far.
    record Walk (a : Option Port) (l : List Step) (s : Step) : Type 0 where
      path : IsPath a l (opposite (tail s))
      low : IsLow n l
      arc : s.arc < n
      within : (k : ℕ) → uses k l ≤ copies k
      unused : uses s.arc l < copies s.arc
      once : (q : Option Port) → visits q l ≤ 1
      start : visits a l ≡ 0

    used_more : {a : Option Port} {l : List Step} {s : Step} → Walk a l s → (k : ℕ) → uses k (s ∷ l) ≤ copies k
    used_more {l = l} {s = s} w k = elim (cases_eq s.arc k) [
      | inl e ↦ let h : uses k l < copies k = rw e at w.unused in rw (eq-eqb s.arc k e) (omega arith)
      | inr ne ↦ rw (ne_eqb s.arc k ne) (omega (arith, w.within k))
    ]

    -- A step lessens what is unused.
    shorter : {a : Option Port} {l : List Step} {s : Step} → Walk a l s
        → count_below (λ k. copies k - uses k (s ∷ l)) n < count_below (λ k. copies k - uses k l) n
    shorter {l = l} {s = s} w = count_below_lt (λ k. copies k - uses k (s ∷ l)) (λ k. copies k - uses k l) n s.arc w.arc
        (λ k lk. omega arith) (rw (eq-eqb s.arc s.arc refl) (omega (arith, w.unused)))

    -- A step from a free end along an arc of which there are copies.
    abbrev FreeEnd : Type 0
    FreeEnd = (s : Step) × (s.arc < n) × (0 < copies s.arc) × (tail s ≡ None)

    -- A walk goes on until it closes, or comes from elsewhere to a free end.
    closes : IsEvenOut → (fuel : ℕ) (a : Option Port) (l : List Step) (s : Step) → Walk a l s
        → count_below (λ k. copies k - uses k l) n ≤ fuel → Tour ⊎ ((a ≢ None) × FreeEnd)
    closes even zero a l s w le = absurd (omega (arith, shorter w))
    closes even (suc fuel) a l s w le = elim (cases_Bool (is_same a (head s))) [
      | inl e ↦ search rules
      | inr e ↦ elim (cases_eq (visits (head s) l) 0) [
        | inl fresh ↦ (elim (head s) as (λ q. head s ≡ q → Tour ⊎ ((a ≢ None) × FreeEnd)) [
          | None ↦ λ is. inr (
            λ none. true≢false (rw (is, none) at e),
            (record { arc = s.arc; back = not s.back }, w.arc, omega (arith, w.unused), turned s ∙ is),
          )
          | Some p ↦ λ is. (let o = onward even a (s ∷ l) p (w.path, is) (w.arc, w.low) (used_more w)
              (differ_flip a (head s) (Some p) is e) in
              search (
                rules,
                closes even fuel a (s ∷ l) o.step (record {
                  path = rw o.leaves (w.path, is);
                  low = (w.arc, w.low);
                  arc = o.within;
                  within = used_more w;
                  unused = o.unused;
                  once = search rules;
                  start = rw e (omega (arith, w.start));
                })
                    (omega (arith, shorter w)),
              ))
        ]) refl
        | inr again ↦
            let h = since n (head s) a l (opposite (tail s)) w.path w.low (omega arith) in
            search rules
      ]
    ]

    -- Where the copies are even for each effect, and there are some, there is a closed walk.
    pub tour : IsEvenOut → (j : ℕ) → j < n → 0 < copies j → Tour
    tour even j lj cj =
        let all : ℕ = count_below (λ k. copies k - 0) n in
        let first : Step = record { arc = j; back = false } in
        elim (closes even all (opposite (left j)) [] first (search rules) (omega arith)) [
          | inl t ↦ t
          | inr (ne, (s, l, c, e)) ↦ elim (closes even all (opposite (tail s)) [] s (search rules) (omega arith)) [
            | inl t ↦ t
            | inr (elsewhere, free) ↦ absurd (elsewhere (rw e refl))
          ]
        ]

    -- A tour is even for each effect.
    pub tour_even : (t : Tour) (p : Port)
        → total_below (λ k. arc_weight p k (pos (uses k (t.first ∷ t.others)))) n ≡ pos 0
    tour_even t p = omega (
      integers,
      used_sum n p (t.first ∷ t.others) t.low,
      telescope p t.port t.port (t.first ∷ t.others) t.path,
    )

  -- An arc is used at most as often as its ends are reached.
  uses_low : (k : ℕ) (l : List Step) → uses k l ≤ visits (left k) l + visits (right k) l
  uses_low k [] = omega arith
  uses_low k (s ∷ l) = search (rules, eq-eqb, uses_low k l)

  -- A tour uses each arc at most twice.
  pub at_most_twice : (n : ℕ) (copies : ℕ → ℕ) (t : Tour n copies) (k : ℕ) → uses k (t.first ∷ t.others) ≤ 2
  at_most_twice n copies t k = omega (arith, uses_low k (t.first ∷ t.others), t.once (left k), t.once (right k))
