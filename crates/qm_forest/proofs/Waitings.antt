-- The pool after the number of one of its sets was taken, or given back.
use Rattle.std.proofs.Common.{rules, ◌≡◌, ◌≢◌, ℕ, ◌+◌, ◌<◌, ◌≤◌, cond, eqb, List, length, get_or, count_by, is_some}
use Rattle.std.proofs.Common.{◌⊎◌, Option, Some, None, refl, ◌∙◌, ap, inl, inr, arith, length-set, get_or-set_same}
use Rattle.std.proofs.Common.{get_or-set_other, zero, suc, ◌*◌, Bool, false, sum_by, ◌∷◌, [], ◌++◌, ℤ, pos, ◌+ℤ◌, ◌≤ℤ◌}
use Rattle.std.proofs.{Common.sym, lemmas.List.Sorted.IsNonDecreasingBy-from_all_adjacent, Math.ListN.set}
use Rattle.std.proofs.{lemmas.List.Sums.sum_by-set, lemmas.List.Sums.sum_by-cons, lemmas.Int.ints}
use Rattle.std.proofs.lemmas.Bool.{cases_eq, cond-false, le-ltb, cases_lt, cond-true, eq-eqb, lt-ltb, ne_eqb}
use Rattle.std.proofs.lemmas.Option.{slice_get-get_or, slice_get_past, slice_get_within, get_or_from_slice_get}
use Rattle.std.proofs.lemmas.List.{get_or_append_left, get_or-append_right, get_or_past, get_or_read, length-append}
use Rattle.std.proofs.lemmas.List.Elements.{All-push, Contains-push, Contains-append_left}
use Rattle.std.proofs.lemmas.List.Sorted.{sum_by-IsPermutation, All-permutation, Contains-permutation}
use Rattle.std.specs.List.Sorted.{IsNonDecreasingBy, IsPermutation, IsSorted}
use Rattle.std.specs.Ordering.{is_lt, nat_cmp, ordering_then}
use Rattle.def_forest.specs.{Forests.live_at, Forests.bool_number, Tables.ForestTables, Tables.up_at}
use Rattle.qm_forest.specs.Outlines.{AreDistinct, AreEntries, AreWeights, IsListOf, set_in}
use Rattle.qm_forest.specs.Rounds.{AreInOrder, HasSets, IsEntry, IsRound, IsSized, WaitWithin, waiting, waits_but}
use Rattle.sum_laws.proofs.Sums.{count_append, count_below_none, count_below_one, count_below_total, count_total}
use Rattle.{std.proofs.lemmas.Bool.Decides.nat_tests, std.specs.Prelude.slice_get, std.specs.Prelude.nat_lt}
use Rattle.{std.specs.Prelude.unsigned_abs, def_math.specs.Counts.count_below, def_math.specs.Counts.count}
use Rattle.{def_math.specs.Sums.total_below, qm_forest.specs.Rounds.waits_for, qm_forest.specs.Ties.IsPooled}
use Rattle.{qm_forest.proofs.RingRounds.count_changed, qm_forest.proofs.RingRounds.count_more}
use Rattle.{sum_laws.proofs.Sums.total_below_none, sum_laws.proofs.Sums.total_below_same}
use Rattle.{qm_pool.specs.declared.pool.Node.Node, qm_dual.proofs.Tallies.total_entries}

-- An entry of the pool has a node where its number has parts.
abbrev pub IsFit : (entry : Option Node) (many : ℕ) → Type 0
IsFit entry many = ((entry ≡ None) × (many ≡ 0)) ⊎ ((node : Node) × (entry ≡ Some node) × (many ≢ 0))

fit_count : {entry : Option Node} {many : ℕ} → IsFit entry many → ◌≡◌ {A = ℕ} (cond (is_some entry) 1 0)
    (cond (eqb many 0) 0 1)
fit_count fit = grind arith

-- One entry has changed, and with it whether its number has parts.
module _ {n size : ℕ} {parts : List ℕ} {pool : List (Option Node)} (pooled : IsPooled n size parts pool) {b : ℕ}
    (id : ℕ) (high : n ≤ b) (low : b < size) (wide : length parts ≡ size) (id_is : b ≡ n + id) {was : Option Node}
    (was_is : slice_get pool id ≡ Some was) (old_fit : IsFit was (get_or parts b 0)) (new : Option Node) (many : ℕ)
    (new_fit : IsFit new many) where
  abbrev parts2 : List ℕ
  parts2 = set parts b many

  abbrev pool2 : List (Option Node)
  pool2 = set pool id new

  id_low : id < length pool
  id_low = slice_get_within pool id was was_is

  pool_size : length pool2 ≡ length pool
  pool_size = length-set pool id new

  at_b : get_or parts2 b 0 ≡ many
  at_b = get_or-set_same parts b many 0 (rw wide low)

  at_old : (x : ℕ) → x ≢ b → get_or parts2 x 0 ≡ get_or parts x 0
  at_old x ne = get_or-set_other parts b x many 0 ne

  here : slice_get pool2 id ≡ Some new
  here = cc (slice_get-get_or pool2 id None (rw pool_size id_low), get_or-set_same pool id new None id_low)

  there : (k : ℕ) → k ≢ id → slice_get pool2 k ≡ slice_get pool k
  there k ne = grind (arith, slice_get-get_or, slice_get_past, get_or-set_other pool id k new None ne, pool_size)

  -- The number is counted before and after as the pool counts its entry.
  live_b : (parts' : List ℕ) {m : ℕ} → get_or parts' b 0 ≡ m → live_at n (λ i. get_or parts' i 0) b ≡ cond (eqb m 0) 0 1
  live_b parts' is = cond-false _ _ _ (le-ltb b n high) ∙ ap (λ k. cond (eqb k 0) 0 1) is

  counted : count_by is_some pool2 ≡ count_below (live_at n (λ i. get_or parts2 i 0)) size
  counted =
      let sum = sum_by-set (λ (o : Option Node). cond (is_some o) 1 0) _ id new None id_low in
      let entry = ap {B = ℕ} (λ (o : Option Node). cond (is_some o) 1 0) (get_or_from_slice_get _ id _ None was_is) in
      let count = count_changed _ _ _ b low
      (λ x lx ne. ap (λ m. cond (nat_lt x n) 0 (cond (eqb m 0) 0 1)) (at_old x ne)) in
      omega (arith, live_b parts refl, live_b _ at_b, fit_count old_fit, fit_count new_fit)

  pub pool_changed : IsPooled n size (set parts b many) (set pool id new)
  pool_changed = search (rules, here, there, counted)

-- Sets that wait, from the one with the most vertices on, and the sets in order: each stands there once, and a sum over
-- them is a sum over all blossoms.

-- What is counted at one place, and at two.
one_place : {X : Type 0} (f : X → ℕ) (xs : List X) (k : ℕ) (d : X) → k < length xs → f (get_or xs k d) ≤ count f xs
one_place f [] k d l = absurd (omega arith)
one_place f (x ∷ xs) zero d l = omega arith
one_place f (x ∷ xs) (suc k) d l = omega (arith, one_place f xs k d (omega arith))

two_places : {X : Type 0} (f : X → ℕ) (xs : List X) (j k : ℕ) (d : X) → j < k → k < length xs
    → f (get_or xs j d) + f (get_or xs k d) ≤ count f xs
two_places f [] j k d lt l = absurd (omega arith)
two_places f (x ∷ xs) j zero d lt l = absurd (omega arith)
two_places f (x ∷ xs) zero (suc k) d lt l = omega (arith, one_place f xs k d (omega arith))
two_places f (x ∷ xs) (suc j) (suc k) d lt l = omega (arith, two_places f xs j k d (omega arith) (omega arith))

-- A sum in two parts: its first terms, and the others.
split_at : (f : ℕ → ℤ) (n m : ℕ) → n ≤ m → total_below f n +ℤ total_below (λ b. cond (nat_lt b n) (pos 0) (f b)) m
    ≡ total_below f m
split_at f n zero l = (let e : n ≡ 0 = omega (arith, l) in omega (arith, ints, ap (total_below f) e))
split_at f n (suc m) l = elim (cases_lt m n) [
  | inl h ↦ (let none = total_below_none (λ b. cond (nat_lt b n) (pos 0) (f b)) (suc m)
      (λ b lb. cond-true _ _ _ (lt-ltb b n (omega (arith, lb, h)))) in
      let e : n ≡ suc m = omega (arith, l, h) in
      omega (arith, ints, ap (total_below f) e))
  | inr h ↦ (let here : cond (nat_lt m n) (pos 0) (f m) ≡ f m = cond-false _ _ _ (le-ltb m n h) in
      omega (arith, ints, split_at f n m h))
]

module _ {t : ForestTables} {sets : List (ℕ × ℕ)} (order : AreInOrder t sets) where
  pub sized : (k : ℕ) → k < length sets → IsSized t (length t.up) (get_or sets k (0, 0))
  sized k l = order.has.each k (0, 0) l

  pub set_low : (k : ℕ) → k < length sets → set_in sets k < length t.up
  set_low k l = (sized k l).low

  live_low : (b : ℕ) → live_at (length t.hand) (λ k. get_or t.parts k 0) b ≤ 1
  live_low b = grind arith

  -- No set stands at two places.
  pub distinct : AreDistinct sets
  distinct j k lt l same =
      let two = two_places (λ (set : ℕ × ℕ). bool_number (eqb set.1 x)) sets j k (0, 0) lt l in
      let count = order.has.counts (λ b. bool_number (eqb b x)) in
      omega (arith, at j same, at k refl, one)
    where
      x : ℕ
      x = set_in sets k

      at : (i : ℕ) → set_in sets i ≡ x → bool_number (eqb (get_or sets i (0, 0)).1 x) ≡ 1
      at i e = ap bool_number (eq-eqb (set_in sets i) x e)

      one : count_below (λ b. live_at (length t.hand) (λ i. get_or t.parts i 0) b * bool_number (eqb b x)) (length t.up)
          ≤ 1
      one = rw (
        count_below_one (λ b. live_at (length t.hand) (λ i. get_or t.parts i 0) b * bool_number (eqb b x))
            _ x (set_low k l) (λ b lb ne. rw (ne_eqb b x ne) (omega arith)),
        eq-eqb x x refl,
      ) (omega (arith, live_low x))

  -- Each set in use stands somewhere.
  pub place_of : (b : ℕ) → length t.hand ≤ b → b < length t.up → get_or t.parts b 0 ≢ 0 → (k : ℕ) × (k < length sets)
      × (set_in sets k ≡ b)
  place_of b high low live = search (rules, get_or_read)

  -- A sum over vertices and sets is one over all numbers.
  pub sum_parts : (f : ℕ → ℤ) → length t.hand ≤ length t.up → ((b : ℕ) → length t.hand ≤ b → b < length t.up
      → pos 0 ≤ℤ f b) → ((b : ℕ) → length t.hand ≤ b → get_or t.parts b 0 ≡ 0 → f b ≡ pos 0)
      → total_below f (length t.hand) +ℤ total_below (λ k. f (set_in sets k)) (length sets)
      ≡ total_below f (length t.up)
  sum_parts f vertices high none =
      let places = total_entries (λ (set : ℕ × ℕ). pos (size set.1)) (0, 0) sets in
      let same = total_below_same _ _ _
      (λ k l. is_size (f (set_in sets k)) (high (set_in sets k) (sized k l).high (set_low k l))) in
      let counted = ap (λ (m : ℕ). pos m) (order.has.counts size) in
      let below = count_below_total lives (length t.up) in
      let terms = total_below_same _ _ _ term in
      let all = count_total (λ (set : ℕ × ℕ). size set.1) sets in
      let split = split_at f _ _ vertices in
      omega (arith, ints)
    where
      size : ℕ → ℕ
      size b = unsigned_abs (f b)

      lives : ℕ → ℕ
      lives b = live_at (length t.hand) (λ i. get_or t.parts i 0) b * size b

      is_size : (x : ℤ) → pos 0 ≤ℤ x → x ≡ pos (unsigned_abs x)
      is_size x h = omega (arith, ints, h)

      term : (b : ℕ) → b < length t.up → pos (lives b) ≡ cond (nat_lt b (length t.hand)) (pos 0) (f b)
      term b l = grind (arith, ints, none b, λ (h : length t.hand ≤ b). high b h l)

-- A list of entries was made in two parts.
pub list_made : {up up1 up2 names names1 names2 : List ℕ} {n count : ℕ} (many : ℕ) (place : ℕ → ℕ) (old new : List ℕ)
    → up1 ≡ up → up2 ≡ up → names1 ≡ names → names2 ≡ names → count ≡ n → length old ≡ count
    → AreEntries (up_at up1) names1 (λ v. v) 0 count old
    → length new ≡ length old + many → ((k : ℕ) → k < length old → get_or new k 0 ≡ get_or old k 0)
    → AreEntries (up_at up2) names2 place (length old) many new → IsListOf (up_at up) names n place many new
list_made {up} {names1} {names2} {n} many place old new e1 e2 f1 f2 count_is size_old first size kept second =
    grind (arith, first, kept, second)

-- One weight more.
pub weights_more : {weight : ℕ → ℤ} {place : ℕ → ℕ} {k : ℕ} {xs : List ℤ} {ys : List ℤ} {x : ℤ} → ys ≡ xs ++ x ∷ []
    → x ≡ weight (place k) → AreWeights weight place k xs → AreWeights weight place (k + 1) ys
weights_more {weight} {place} {k} {xs} {x} ys_is x_is are =
    grind (arith, are.each, length-append, get_or_append_left, get_or-append_right)

-- Others that wait where one does not any more did before.
pub taken_entries : (left : List (Option ℕ)) (c b w : ℕ) → c < length left → get_or (set left c None) b None ≡ Some w
    → (get_or left b None ≡ Some w) × (b ≢ c)
taken_entries left c b w low is =
    grind (arith, get_or-set_same left c None None low, get_or-set_other left c b None None)

-- A set does not wait any more: what waited in it is the rest.
pub taken : {t : ForestTables} {marks : List Bool} {left : List (Option ℕ)} {rest due : ℕ → ℕ} (c v : ℕ)
    → c < length left → get_or left c None ≡ Some v → IsRound t marks left rest due
    → IsRound t marks (set left c None) (λ b. waits_but t b c v + rest b) due
taken {t} {left} c v low here round = record {
  each = λ b l. omega (arith, round.each b l, less b);
  entry = λ k w is. round.entry k w (taken_entries left c k w low is).0;
  once = round.once;
  tight = round.tight;
}
  where
    less : (b : ℕ) → waiting t left b ≡ waiting t (set left c None) b + waits_but t b c v
    less b =
        let more = count_more (λ k. waits_for t b k (get_or (set left c None) k None))
        (λ k. waits_for t b k (get_or left k None)) (length left) c low
        (ap (waits_for t b c) (get_or-set_same left c None None low)) (search rules) in
        cc (length-set left c None)

-- Pairs that are sorted have first parts that do not fall.
pub firsts_rise : (xs : List (ℕ × ℕ)) → IsSorted (λ (x y : ℕ × ℕ). ordering_then (nat_cmp x.0 y.0) (nat_cmp x.1 y.1)) xs
    → IsNonDecreasingBy (λ (x : ℕ × ℕ). x.0) xs
firsts_rise xs sorted = IsNonDecreasingBy-from_all_adjacent (λ (x : ℕ × ℕ). x.0) xs (search rules)
  where
    at : (a b c d : ℕ) → is_lt (ordering_then (nat_cmp a c) (nat_cmp b d)) ≡ false → (a < c) ⊎ (c ≤ a) → c ≤ a
    at a b c d off (inr le) = le
    at a b c d off (inl lt) = absurd (grind (arith, nat_tests))

-- A count along a list is a sum along it.
count_is : {X : Type 0} (f : X → ℕ) (xs : List X) → count f xs ≡ sum_by f xs
count_is f [] = refl
count_is f (x ∷ xs) = ap (λ m. f x + m) (count_is f xs) ∙ sym (sum_by-cons f x xs)

-- The sets of a list, moved about.
pub sets_moved : {t : ForestTables} {bound : ℕ} {xs : List (ℕ × ℕ)} (ys : List (ℕ × ℕ)) → IsPermutation xs ys
    → HasSets t bound xs → HasSets t bound ys
sets_moved {t} {bound} {xs} ys moved has =
    let each = All-permutation (IsSized t bound) xs ys moved has.each in
    search (rules, Contains-permutation xs ys, has.all, has.counts, count_is, sum_by-IsPermutation)

-- What waits after a set was matched has fewer vertices, so that it is one of those before.
pub wait_before : {t : ForestTables} {sets : List (ℕ × ℕ)} (left left2 : List (Option ℕ)) (k : ℕ) {c : ℕ}
    → AreInOrder t sets → suc k ≤ length sets → (get_or sets k (0, 0)).1 ≡ c → WaitWithin left sets (suc k)
    → ((b w : ℕ) → get_or left2 b None ≡ Some w → ((get_or left b None ≡ Some w) × (b ≢ c))
    ⊎ (get_or t.rank b 0 < get_or t.rank c 0)) → ((b w : ℕ) → get_or left2 b None ≡ Some w → (length t.hand ≤ b)
    × (b < length t.up) × (get_or t.parts b 0 ≢ 0)) → WaitWithin left2 sets k
wait_before {t} {sets} left left2 k {c} order low at within entries lawful b w is = search (rules, place_of)

-- What waits has an entry, so that its number is one.
pub entry_low : (left : List (Option ℕ)) (c v : ℕ) → get_or left c None ≡ Some v → c < length left
entry_low left c v is = grind (arith, get_or_past left c None)

pub wait_begins : {t : ForestTables} {sets : List (ℕ × ℕ)} (left : List (Option ℕ)) (many : ℕ) → AreInOrder t sets
    → many ≡ length sets → length left ≡ length t.up → ((c v : ℕ) → get_or left c None ≡ Some v → IsEntry t c v)
    → WaitWithin left sets many
wait_begins left many order all size lawful c v is =
    let w = place_of order c (lawful c v is).high (rw size at (entry_low left c v is)) (lawful c v is).live in
    (w.0, omega arith, w.1, w.2)

-- One number more is that of a set in use, or not.
pub sets_more : {t : ForestTables} {b : ℕ} {xs : List (ℕ × ℕ)} → length t.hand ≤ b → get_or t.parts b 0 ≢ 0
    → HasSets t b xs → HasSets t (b + 1) (xs ++ (get_or t.rank b 0, b) ∷ [])
sets_more {t} {b} {xs} high live has = record {
  each = All-push (IsSized t (b + 1)) xs (get_or t.rank b 0, b) (search rules) (search rules);
  all = λ c hc lc used. elim (cases_eq c b) [
    | inl e ↦ rw e (Contains-push xs (get_or t.rank b 0, b))
    | inr ne ↦ Contains-append_left xs ((get_or t.rank b 0, b) ∷ []) (get_or t.rank c 0, c)
        (has.all c hc (omega (arith, lc, ne)) used)
  ];
  counts = search (rules, count_append);
}

-- No set below the vertices' number is one.
pub sets_none : (t : ForestTables) (xs : List (ℕ × ℕ)) → length xs ≡ 0 → HasSets t (length t.hand) xs
sets_none t [] none = search (rules, count_below_none)
sets_none t (x ∷ xs) none = absurd (omega arith)
