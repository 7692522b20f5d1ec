-- Each blossom holds an odd number of vertices, and there are fewer than half as many sets as vertices: each set has
-- three parts at least.
use Rattle.std.proofs.Common.{rules, ◌≡◌, ◌≢◌, ℕ, zero, suc, ◌+◌, ◌*◌, ◌%◌, ◌<◌, ◌≤◌, ◌⊎◌, true, cond, eqb, refl, sym}
use Rattle.std.proofs.Common.{◌∙◌, ap, inl, inr, arith, min}
use Rattle.std.proofs.lemmas.Bool.{cases_lt, eq-eqb, ne_eqb, le-ltb}
use Rattle.sum_laws.proofs.Sums.{count_below_same, count_below_le, count_below_sum, count_below_none, count_below_one}
use Rattle.sum_laws.proofs.Sums.{count_below_times}
use Rattle.def_forest.specs.Forests.{Forest, blossom_size, bool_number, live_at, ring_sum, sets_of, walk}
use Rattle.def_forest.specs.{Darts.Darts, Darts.AreDarts, Valid.AreOutermost, Valid.IsNested, Valid.IsRing}
use Rattle.{std.specs.Prelude.nat_lt, def_math.specs.Counts.count_below}

-- A count of sums along a ring.
pub counts_exchanged : (next : ℕ → ℕ) (f : ℕ → ℕ → ℕ) (front n k : ℕ)
    → count_below (λ w. ring_sum next (λ p. f p w) front k) n ≡ ring_sum next (λ p. count_below (f p) n) front k
counts_exchanged next f front n zero = count_below_none (λ w. 0) n (λ j l. refl)
counts_exchanged next f front n (suc k) =
    let sum = count_below_sum (λ w. ring_sum next (λ p. f p w) front k) (f (walk next front k)) n in
    omega (arith, counts_exchanged next f front n k)

-- A sum of odd numbers is odd where there is an odd number of them.
pub odd_sum : (next f : ℕ → ℕ) (front k : ℕ) → ((j : ℕ) → f (walk next front j) % 2 ≡ 1) → ring_sum next f front k % 2
    ≡ k % 2
odd_sum next f front zero odd = refl
odd_sum next f front (suc k) odd = omega (arith, odd_sum next f front k odd, odd k)

-- A number that is in use is a vertex's or that of a ring.
abbrev pub IsBlossom : (g : Darts) (f : Forest) (b : ℕ) → Type 0
IsBlossom g f b = (b < g.n) ⊎ ((g.n ≤ b) × (f.nest.parts b ≢ 0))

module _ {g : Darts} (are : AreDarts g) {f : Forest} (nested : IsNested g f) where
  -- What holds a vertex is in use, and so is a part.
  pub holder_used : {p v : ℕ} → v < g.n → f.holds p v ≡ true → IsBlossom g f p
  holder_used {p} {v} l on = grind (arith, nested.empty p v)

  pub part_used : {b : ℕ} → IsRing g f b → (k : ℕ) → IsBlossom g f (walk f.nest.after (f.nest.head b) k)
  part_used {b} ring k = search rules

  -- A set has the vertices of its parts.
  set_sum : {b : ℕ} → IsRing g f b → blossom_size g.n f b ≡ ring_sum f.nest.after (blossom_size g.n f) (f.nest.head b)
      (f.nest.parts b)
  set_sum {b} ring = count_below_same _ _ _ ring.shared ∙ counts_exchanged _ (λ p v. bool_number (f.holds p v)) _ _ _

  odd_below : (fuel b : ℕ) → f.nest.rank b < fuel → IsBlossom g f b → blossom_size g.n f b % 2 ≡ 1
  odd_below zero b l used = absurd (omega arith)
  odd_below (suc fuel) b l (inl low) =
      let one = count_below_one (λ v. bool_number (f.holds b v)) g.n b low (search rules) in
      omega (arith, ap bool_number (nested.alone b b low low ∙ eq-eqb b b refl))
  odd_below (suc fuel) b l (inr (high, live)) =
      let ring = nested.rings b high live in
      let odd = odd_sum f.nest.after (blossom_size g.n f) (f.nest.head b) (f.nest.parts b)
      (λ k. odd_below fuel (walk f.nest.after (f.nest.head b) k) (omega (arith, ring.lower k)) (part_used ring k)) in
      omega (arith, set_sum ring, ring.odd)

  -- A blossom holds an odd number of vertices.
  pub odd_blossom : (b : ℕ) → IsBlossom g f b → blossom_size g.n f b % 2 ≡ 1
  odd_blossom b used = odd_below (suc (f.nest.rank b)) b (omega arith) used

  -- A set holds at least as many vertices as it has parts.
  pub large_set : (b : ℕ) → g.n ≤ b → f.nest.parts b ≢ 0 → 3 ≤ blossom_size g.n f b
  large_set b high live = omega (arith, set_sum ring, each (f.nest.parts b), ring.odd, ring.some)
    where
      ring : IsRing g f b
      ring = nested.rings b high live

      each : (k : ℕ) → k ≤ ring_sum f.nest.after (blossom_size g.n f) (f.nest.head b) k
      each zero = omega arith
      each (suc k) = omega (arith, each k, odd_blossom (walk f.nest.after (f.nest.head b) k) (part_used ring k))

-- The order of two counts does not matter.
counts_swapped : (f : ℕ → ℕ → ℕ) (m n : ℕ) → count_below (λ i. count_below (f i) m) n
    ≡ count_below (λ j. count_below (λ i. f i j) n) m
counts_swapped f m zero = sym (count_below_none (λ j. 0) m (λ k l. refl))
counts_swapped f m (suc n) =
    let h = counts_swapped f m n in
    omega (arith, count_below_sum (λ j. count_below (λ i. f i j) n) (f n) m)

one_at : (a m : ℕ) → a < m → count_below (λ k. bool_number (eqb k a)) m ≡ 1
one_at a m l = count_below_one _ m a l (λ k lk ne. ap bool_number (ne_eqb k a ne)) ∙ ap bool_number (eq-eqb a a refl)

-- Three different places.
abbrev three : (at : ℕ → ℕ) → ℕ → ℕ
three at k = bool_number (eqb k (at 0)) + (bool_number (eqb k (at 1)) + bool_number (eqb k (at 2)))

three_count : (at : ℕ → ℕ) (m : ℕ) → ((k : ℕ) → k < 3 → at k < m) → count_below (three at) m ≡ 3
three_count at m low =
    let one = count_below_sum (λ k. bool_number (eqb k (at 0)))
    (λ k. bool_number (eqb k (at 1)) + bool_number (eqb k (at 2))) m in
    let two = count_below_sum (λ k. bool_number (eqb k (at 1))) (λ k. bool_number (eqb k (at 2))) m in
    let each = λ (k : ℕ) (l : k < 3). one_at (at k) m (low k l) in
    omega (arith, each 0, each 1, each 2)

-- What is less than a function at each of the three, and never greater, is no greater with how many of them there are.
three_low : (less more at : ℕ → ℕ) → ((i j : ℕ) → i < j → j < 3 → at i ≢ at j)
    → ((k : ℕ) → k < 3 → less (at k) < more (at k)) → ((p : ℕ) → less p ≤ more p) → (p : ℕ)
    → less p + three at p ≤ more p
three_low less more at differ each low p =
    grind (arith, differ 0 1, differ 0 2, differ 1 2, each 0, each 1, each 2, low p)

-- So many numbers are below another.
count_low : (n m : ℕ) → count_below (λ p. bool_number (nat_lt p n)) m ≡ min n m
count_low n zero = omega arith
count_low n (suc m) = grind (arith, cases_lt m n, count_low n m)

pub live_none : {n : ℕ} (parts : ℕ → ℕ) {b : ℕ} → n ≤ b → parts b ≡ 0 → live_at n parts b ≡ 0
live_none {n} parts {b} h e = rw (le-ltb b n h, eq-eqb (parts b) 0 e)

pub live_some : {n : ℕ} (parts : ℕ → ℕ) {b : ℕ} → n ≤ b → parts b ≢ 0 → live_at n parts b ≡ 1
live_some {n} parts {b} h ne = rw (le-ltb b n h, ne_eqb (parts b) 0 ne)

module _ (g : Darts) (are : AreDarts g) (f : Forest) (nested : IsNested g f) (vertices : g.n ≤ f.size) where
  -- p is a part of b.
  abbrev part : ℕ → ℕ → ℕ
  part p b = cond (eqb (f.nest.up p) b) (cond (eqb p b) 0 1) 0

  abbrev inner : ℕ → ℕ
  inner p = cond (eqb (f.nest.up p) p) 0 1

  abbrev used : ℕ → ℕ
  used p = bool_number (nat_lt p g.n) + live_at g.n f.nest.parts p

  three_parts : (b : ℕ) → IsRing g f b → 3 ≤ count_below (λ p. part p b) f.size
  three_parts b ring =
      let at = walk f.nest.after (f.nest.head b) in
      let one : (k : ℕ) → 1 ≤ part (at k) b = λ k. grind (arith, ring.inside k, ring.lower k) in
      let below = count_below_le (three at) (λ p. part p b) f.size (λ p l. (let low = three_low (λ x. 0)
      (λ x. part x b) at (search rules) (λ k l. one k) (λ x. omega arith) p in omega arith)) in
      omega (arith, three_count at f.size (λ k l. ring.below k))

  one_set : (p : ℕ) → count_below (part p) f.size ≤ inner p
  one_set p = elim (cases_lt (f.nest.up p) f.size) [
    | inl l ↦ (let one = count_below_one (part p) f.size (f.nest.up p) l (λ b lb nb. grind arith) in grind arith)
    | inr h ↦ omega (arith, count_below_none (part p) f.size (λ b l. grind arith))
  ]

  -- What is in use, with so many outermost blossoms marked that are no parts: three times the sets are few.
  sets_beside : (tops : ℕ → ℕ) → ((p : ℕ) → p < f.size → inner p + tops p ≤ used p)
      → 2 * sets_of g.n f + count_below tops f.size ≤ g.n
  sets_beside tops each =
      let live = live_at g.n f.nest.parts in
      let uses = count_below_sum (λ p. bool_number (nat_lt p g.n)) live f.size in
      let times = count_below_times 3 live f.size in
      let parts = count_below_le (λ x. 3 * live x) (λ x. count_below (λ p. part p x) f.size) f.size
      (λ b l. grind (arith, λ (h : g.n ≤ b) (some : f.nest.parts b ≢ 0). three_parts b (nested.rings b h some))) in
      let swapped = counts_swapped (λ x p. part p x) f.size f.size in
      let sets = count_below_le (λ p. count_below (part p) f.size) inner f.size (λ p l. one_set p) in
      let more = count_below_le (λ p. inner p + tops p) used f.size each in
      search (rules, count_below_sum inner tops f.size, count_low g.n f.size)

  inner_low : (p : ℕ) → inner p ≤ used p
  inner_low p = search rules

  -- Where there is no vertex there is no set.
  pub no_sets : g.n ≡ 0 → sets_of g.n f ≡ 0
  no_sets none = omega (arith, sets_beside (λ p. 0) (λ p l. omega (arith, inner_low p)))

  -- The outermost blossom of a vertex is in use, and no part.
  pub few_sets : AreOutermost g.n f → 0 < g.n → 2 * sets_of g.n f < g.n
  few_sets outermost some =
      let top = f.out 0 in
      let few = sets_beside (λ p. bool_number (eqb p top)) (search (rules, inner_low)) in
      omega (arith, one_at top f.size (outermost.out_low 0 some))

  -- Where three outermost blossoms are in use, there is room for a set more.
  pub sets_few : (at : ℕ → ℕ) → ((k : ℕ) → k < 3 → at k < f.size) → ((i j : ℕ) → i < j → j < 3 → at i ≢ at j)
      → ((k : ℕ) → k < 3 → f.nest.up (at k) ≡ at k) → ((k : ℕ) → k < 3 → IsBlossom g f (at k))
      → 2 * count_below (live_at g.n f.nest.parts) f.size + 3 ≤ g.n
  sets_few at low differ tops uses =
      let few = sets_beside (three at) (λ p l. three_low inner used at differ (search rules) inner_low p) in
      omega (arith, three_count at f.size low)
