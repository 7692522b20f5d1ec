-- Laws of runs laid end to end.
use Rattle.std.proofs.lemmas.Grind.{common_steps}
use Rattle.std.proofs.Common.{rules, ◌≡◌, ℕ, zero, suc, ◌+◌, ◌-◌, ◌*◌, ◌/◌, ◌%◌, ◌<◌, ◌≤◌, sym, ◌∙◌, ap, inl, inr}
use Rattle.std.proofs.Common.{arith, Bool, true, false, refl, [], ◌≢◌, cond, ◌∷◌, length}
use Rattle.std.proofs.lemmas.Bool.{cases_eq, cond-false, ne_eqb, cases_Bool}
use Rattle.std.proofs.Math.Nat.{mod-lt, div-lt_iff_lt-mul, mul_comm}
use Rattle.std.proofs.lemmas.{Nat.mul-add-lt, Nat.same_from_place, Nat.div-mul-add, Nat.mul-le, List.length-append}
use Rattle.std.specs.{Prelude.◌==◌, List.filter, List.range_with_len}
use Rattle.sum_laws.proofs.Sums.{count_below_ones, count_below_same}
use Rattle.def_layout.specs.{Gluings.Gluing, Lengths.Lengths, Lengths.AreLengths}
use Rattle.def_written.specs.Spacings.{inner_step, shared_parameter, shared_step, step_parameter, Shares, counted}
use Rattle.def_written.specs.{Laws.EvenSpacingLaw, Laws.SharedLaw, Places.ONE, Places.Step}
use Rattle.{def_math.specs.Counts.count_below, def_math.specs.Runs.run_at, list_laws.proofs.Filters.filter_range_more}

-- Counts rise with the bound.
pub count_rises : (f : ℕ → ℕ) (a b : ℕ) → a ≤ b → count_below f a ≤ count_below f b
count_rises f a zero le = search rules
count_rises f a (suc b) le = search (rules, cases_eq a (suc b), count_rises f a b)

-- Where there are runs, one of them is found.
pub run_low : (start : ℕ → ℕ) (n t : ℕ) → 0 < n → run_at start n t < n
run_low start (suc (suc n)) t l = search (rules, run_low start (suc n) t (omega arith))
run_low start _ t l = search rules

-- It begins at or before the place.
pub run_from : (start : ℕ → ℕ) (n t : ℕ) → start 0 ≤ t → start (run_at start n t) ≤ t
run_from start zero t l = l
run_from start (suc n) t l = search (rules, run_from start n t l)

-- The next one begins after it.
pub run_to : (start : ℕ → ℕ) (n t : ℕ) → 0 < n → t < start n → t < start (suc (run_at start n t))
run_to start (suc (suc n)) t some l = search (rules, run_to start (suc n) t)
run_to start _ t some l = search rules

-- From the beginning of the last one on it is found.
pub run_last : (start : ℕ → ℕ) (n t : ℕ) → 0 < n → start (n - 1) ≤ t → run_at start n t ≡ n - 1
run_last start n t h1 h2 = search rules

-- Place o of run k lies in run k.
pub run_place : (f : ℕ → ℕ) (n k o : ℕ) → k < n → o < f k → run_at (count_below f) n (count_below f k + o) ≡ k
run_place f zero k o l in_run = absurd (omega arith)
run_place f (suc n) k o l in_run = search (rules, cases_eq k n, count_rises f (suc k) n, run_place f n k o)

-- Place t lies o after the beginning of run k.
pub record IsInRun (f : ℕ → ℕ) (n t k o : ℕ) : Type 0 where
  pub low : k < n
  pub inside : o < f k
  pub place : t ≡ count_below f k + o

-- Each place lies in a run.
pub run_here : (f : ℕ → ℕ) (n t : ℕ) → t < count_below f n
    → IsInRun f n t (run_at (count_below f) n t) (t - count_below f (run_at (count_below f) n t))
run_here f n t h1 = search (rules, run_from, run_to, run_low)

-- Places of runs are below the end.
pub place_low : (f : ℕ → ℕ) (n k o : ℕ) → k < n → o < f k → count_below f k + o < count_below f n
place_low f n k o l in_run = grind (arith, count_rises f (suc k) n)

-- A place lies in one run, and there at one place.
pub place_same : (f : ℕ → ℕ) (n a k b o : ℕ) → a < n → b < n → k < f a → o < f b
    → count_below f a + k ≡ count_below f b + o → (a ≡ b) × (k ≡ o)
place_same f n a k b o la lb lk lo same =
    let e : a ≡ b = sym (run_place f n a k la lk) ∙ ap (run_at (count_below f) n) same ∙ run_place f n b o lb lo in
    (e, omega (arith, ap (count_below f) e))

-- A place below rows of so many is one of a row and a column.
pub in_rows : (w h t : ℕ) → t < h * w → (t % w < w) × (t / w < h) × (t / w * w + t % w ≡ t)
in_rows w h t low = search rules

-- Blocks of rows laid end to end: block p has h p rows of w p places.
module _ (w h : ℕ → ℕ) (n : ℕ) where
  abbrev pub cells_of : (p : ℕ) → ℕ
  cells_of p = w p * h p

  pub record IsCell (p i j : ℕ) : Type 0 where
    pub low : p < n
    pub column : i < w p
    pub row : j < h p

  abbrev pub number_of : (p i j : ℕ) → ℕ
  number_of p i j = count_below cells_of p + (j * w p + i)

  pub number_inside : {p i j : ℕ} → IsCell p i j → number_of p i j < count_below cells_of n
  number_inside {p} {i} {j} c = place_low cells_of n p (j * w p + i) c.low (mul-add-lt j (w p) i (h p) c.row c.column)

  pub cell_once : {p i j q c d : ℕ} → IsCell p i j → IsCell q c d → number_of p i j ≡ number_of q c d
      → (p ≡ q) × (i ≡ c) × (j ≡ d)
  cell_once {p} {i} {j} {q} {c} {d} a b same =
      grind (arith, place_same cells_of n p (j * w p + i) q (d * w q + c) a.low b.low, same_from_place j i d c (w p))

  -- Each number below the end is that of a place.
  abbrev pub block_at : (t : ℕ) → ℕ
  block_at t = run_at (count_below cells_of) n t

  abbrev pub rest_at : (t : ℕ) → ℕ
  rest_at t = t - count_below cells_of (block_at t)

  pub cell_here : (t : ℕ) → t < count_below cells_of n → IsCell (block_at t) (rest_at t % w (block_at t)) (rest_at t / w
      (block_at t)) × (number_of (block_at t) (rest_at t % w (block_at t)) (rest_at t / w (block_at t)) ≡ t)
  cell_here t low = let run = run_here cells_of n t low in search rules

  -- The same of a place of which no more is told.
  pub some_cell : (t : ℕ) → t < count_below cells_of n
      → (p : ℕ) × (i : ℕ) × (j : ℕ) × IsCell p i j × (number_of p i j ≡ t)
  some_cell t low = let (c, place) = cell_here t low in (_, _, _, c, place)

-- Equal parts of the old lengths are a spacing, and equal parts of shares of the old edges.

-- A quotient is below a number whose product is greater.
pub div_less : (n k d : ℕ) → 0 < d → n < k * d → n / d < k
div_less n k d some less = (div-lt_iff_lt-mul {k = d} {x = n} {y = k} some).1 less

module _ (l : Gluing) (old new : Lengths) (o_len : AreLengths l old) (n_len : AreLengths l new) where
  -- The old edge at a place of equal parts.
  pub even_edge : (a k : ℕ) → a < l.arcs → k < new a → k * old a / new a < old a
  even_edge a k low less = search rules

-- A step that ends before this old edge, in parts of a parameter.
pub record IsInner (m : ℕ) (step : Step) : Type 0 where
  pub edge : step.edge < m
  pub part : step.some < ONE
  pub parts : step.parts ≡ ONE

-- So many ones are that many.
pub count_ones : (n : ℕ) → count_below (λ edge. 1) n ≡ n
count_ones = count_below_ones

-- Where place k of n lies between the ends of an arc of m old edges.
module _ (share : ℕ → ℕ) (m n k : ℕ) (m_some : 0 < m) (all_some : 0 < count_below share m) (less : k < n) where
  abbrev before : ℕ
  before = k * count_below share m

  abbrev start : ℕ → ℕ
  start i = n * count_below share i

  abbrev edge : ℕ
  edge = run_at start m before

  -- The rest is a part of the share of the edge.
  rest_less : before - start edge < n * share edge
  rest_less = search (rules, run_to, run_from)

  share_some : 0 < n * share edge
  share_some = omega (arith, rest_less)

  pub inner_is : IsInner m (inner_step share m n k)
  inner_is = search (rules, div_less, rest_less, run_low)

  -- It does not lie at the beginning of the arc, where no new edge is shorter than the unit of parameters.
  inner_some : 0 < k → n ≤ ONE → 0 < step_parameter (inner_step share m n k)
  inner_some some few = elim (cases_eq edge 0) [
    | inr ne ↦ omega arith
    | inl first ↦
        let one = count_rises share 1 m (omega arith) in
        let all = mul-le 1 (count_below share m) k (count_below share m) some (omega arith) in
        let le = mul-le n (share edge) ONE (before - start edge) few in
        search (rules, share_some, le, ap share first, ap start first)
  ]

module _ (l : Gluing) (old new : Lengths) (shares : Shares) (o_len : AreLengths l old) (n_len : AreLengths l new) where
  -- Place k of an arc before its end.
  pub step_is : (a k : ℕ) → a < l.arcs → k < new a → IsInner (old a) (shared_step old new shares a k)
  step_is a k low less =
      let some : 0 < count_below (counted (shares a) (old a)) (old a) = search (rules, o_len.some, count_ones) in
      search (rules, o_len.some, inner_is (counted (shares a) (old a)) (old a) (new a) k)

  module _ (few : (a : ℕ) → a < l.arcs → new a ≤ ONE) where
    parameter_some : (a k : ℕ) → a < l.arcs → 0 < k → k ≤ new a → 0 < step_parameter (shared_step old new shares a k)
    parameter_some a k low some le = search (rules, count_ones, inner_some)

    begins_at : (a : ℕ) (forward : Bool) → a < l.arcs → shared_parameter old new shares a forward 0 ≡ 0
    begins_at a true low = refl
    begins_at a false low = search rules

    below_end : (a : ℕ) (forward : Bool) (k : ℕ) → a < l.arcs → k < new a
        → shared_parameter old new shares a forward k < ONE * old a
    below_end a true k low less = omega (arith, (step_is a k low less).edge, (step_is a k low less).part)
    below_end a false k low less = search (rules, parameter_some)

pub even_law : EvenSpacingLaw
even_law l old new o_len n_len = record {
  begins = search rules;
  ends = λ a forward low. grind (arith, div-mul-add (ONE * old a) (new a) 0 (n_len.some a low));
  below = search (rules, mul_comm, div_less);
  edges = even_edge l old new o_len n_len;
  parts = λ a k low less. mod-lt (k * old a) (n_len.some a low);
}

pub shared_law : SharedLaw
shared_law l old new shares o_len n_len few = search (rules, begins_at, below_end, step_is)

-- How many numbers below a bound pass a test, compared by one-to-one maps.

-- One for a test that passes.
abbrev pub one_if : (b : Bool) → ℕ
one_if b = cond b 1 0

-- How many numbers below n pass.
abbrev pub passing : (p : ℕ → Bool) (n : ℕ) → ℕ
passing p n = count_below (λ k. one_if (p k)) n

-- The test without u.
abbrev but : (p : ℕ → Bool) (u : ℕ) → ℕ → Bool
but p u k = cond (k == u) false (p k)

but_same : (p : ℕ → Bool) {u k : ℕ} → k ≢ u → but p u k ≡ p k
but_same p {u} {k} apart = cond-false (k == u) false (p k) (ne_eqb k u apart)

-- One less passes.
passing_but : (p : ℕ → Bool) (n u : ℕ) → u < n → p u ≡ true → passing p n ≡ suc (passing (but p u) n)
passing_but p zero u low on = absurd (omega arith)
passing_but p (suc n) u low on = search (rules, cases_eq n u, count_below_same, but_same p, passing_but p n u)

-- Where what passes p below m is mapped one to one to what passes q below n, there is no more of it.
pub passing_le : (p q : ℕ → Bool) (m n : ℕ) → (to : (i : ℕ) → i < m → p i ≡ true → (k : ℕ) × (k < n) × (q k ≡ true))
    → ((i j : ℕ) (a : i < m) (b : p i ≡ true) (c : j < m) (d : p j ≡ true) → (to i a b).0 ≡ (to j c d).0 → i ≡ j)
    → passing p m ≤ passing q n
passing_le p q zero n to once = omega arith
passing_le p q (suc m) n to once = elim (cases_Bool (p m)) [
  | inl on ↦
      let (u, u_low, u_on) = to m last on in
      let apart : (i : ℕ) (l : i < m) (s : p i ≡ true) → (to i (up i l) s).0 ≢ (to m last on).0 = search rules in
      search (
        rules,
        passing_but,
        passing_le p (but q (to m last on).0) m n (λ i l s. let k = to i (up i l) s in
            (k.0, k.1, but_same q (apart i l s) ∙ k.2)) (λ i j a b c d e. once i j (up i a) b (up j c) d e),
      )
  | inr off ↦
      search (rules, passing_le p q m n (λ i l s. to i (up i l) s) (λ i j a b c d e. once i j (up i a) b (up j c) d e))
]
  where
    last : m < suc m
    last = omega arith

    up : (i : ℕ) → i < m → i < suc m
    up i l = omega arith

-- All numbers below n.
pub passing_all : (n : ℕ) → passing (λ k. true) n ≡ n
passing_all n = count_below_ones n

-- What passes p below m are the numbers a of the things P.
pub record AreNumbers {X : Type 0} (P : X → Type 0) (a : X → ℕ) (p : ℕ → Bool) (m : ℕ) : Type 0 where
  pub each : (d : X) → P d → (a d < m) × (p (a d) ≡ true)
  pub onto : (k : ℕ) → k < m → p k ≡ true → (d : X) × P d × (a d ≡ k)

-- Things with two numbers, of which one tells the other, have no more of the former.
pub numbers_le : {X : Type 0} {P : X → Type 0} {a b : X → ℕ} {p q : ℕ → Bool} {m n : ℕ} → AreNumbers P a p m
    → AreNumbers P b q n → ((d e : X) → P d → P e → b d ≡ b e → a d ≡ a e) → passing p m ≤ passing q n
numbers_le {b} {p} {q} {m} {n} r s tells = passing_le p q m n (λ k low on. let d = r.onto k low on in let e = s.each d.0
    d.1 in (b d.0, e.0, e.1)) (search rules)

-- A filter keeps what passes.
pub filter_long : (p : ℕ → Bool) (n : ℕ) → length (filter p (range_with_len 0 n)) ≡ passing p n
filter_long p zero = refl
filter_long p (suc n) = grind (arith, common_steps, filter_range_more p n, filter_long p n)

-- So many things that pass are as many as the same things told by numbers below n.
pub count_is : {X : Type 0} {P : X → Type 0} {a b : X → ℕ} {p : ℕ → Bool} {m n : ℕ} → AreNumbers P a p m
    → AreNumbers P b (λ k. true) n → ((d e : X) → P d → P e → b d ≡ b e → a d ≡ a e)
    → ((d e : X) → P d → P e → a d ≡ a e → b d ≡ b e) → length (filter p (range_with_len 0 m)) ≡ n
count_is {p} {m} {n} r s there back =
    omega (arith, filter_long p m, passing_all n, numbers_le r s there, numbers_le s r back)
