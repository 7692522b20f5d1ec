-- Sums and writes along a row; handing the vertices of the parts of a set over to their own leaders, part after part;
-- and lists that are joined.
use Rattle.std.proofs.Common.{rules, ◌≡◌, ℕ, zero, suc, ◌<◌, List, length, get_or, ℤ, pos, refl, sym, ◌∙◌, ap, arith}
use Rattle.std.proofs.Common.{length-set, ◌≢◌, ◌+◌, ◌-◌, ◌≤◌, Bool, true, cond, eqb, ◌||◌, inl, inr}
use Rattle.std.proofs.lemmas.Bool.{cond-false, cases_eq, cases_lt, eq-eqb, ne_eqb, eqb-true}
use Rattle.def_forest.specs.Forests.{walk, set_at, bool_number, ring_sum}
use Rattle.qm_forest.specs.Parts.{HasHandedOver, HasHandedRow, HasOwnLeader, HasPartLists}
use Rattle.qm_forest.specs.{Gathers.HasListAt, declared.tables.Handles.Handles, declared.tables.Lists.Lists}
use Rattle.sum_laws.proofs.Sums.{count_below_le, count_below_one, count_below_ones, count_below_same}
use Rattle.forest_laws.proofs.Walks.{walk_sum, listed_at, listed_place, listed_parts, listed_sum}
use Rattle.{qm_forest.specs.Ties.IsListed, qm_forest.proofs.RenamedRows.list_kept}
use Rattle.{qm_forest.proofs.TiedWrites.entry_set, sum_laws.proofs.Tests.once_at_most}
use Rattle.{forest_laws.proofs.Odds.counts_exchanged, forest_laws.proofs.Bounds.eqb_order}
use Rattle.{forest_laws.specs.Walks.writes, forest_laws.specs.Walks.listed, def_math.specs.Counts.count_below}

-- A sum over fewer places is no greater.
pub ring_sum_below : (next f : ℕ → ℕ) (from k n : ℕ) → k ≤ n → ring_sum next f from k ≤ ring_sum next f from n
ring_sum_below next f from k zero l = (let z : k ≡ 0 = omega arith in omega (arith, ap (ring_sum next f from) z))
ring_sum_below next f from k (suc n) l = grind (arith, cases_eq k (suc n), ring_sum_below next f from k n)

-- Each of two or more numbers along a row, none of them 0, is less than their sum.
pub ring_sum_above : (next f : ℕ → ℕ) (from many : ℕ) → 2 ≤ many → ((j : ℕ) → j < many → 1 ≤ f (walk next from j))
    → (k : ℕ) → k < many → f (walk next from k) < ring_sum next f from many
ring_sum_above next f from many two some k l =
    let below = ring_sum_below next f from (suc k) many (omega arith) in
    let both = ring_sum_below next f from (suc 1) many two in
    grind (arith, ring_sum_below next f from 1 k, some 0, some 1)

-- A table in which each place of a walk is written with itself.
pub writes_self : (f next : ℕ → ℕ) (from many x : ℕ) → writes f (walk next from) (walk next from) many x
    ≡ cond (listed next from many x) x (f x)
writes_self f next from zero x = refl
writes_self f next from (suc k) x = grind (arith, writes_self f next from k x)

-- What holds of all values and of a function holds where it is written.
pub writes_has : {X : Type 0} (P : X → Type 0) (f : ℕ → X) (place : ℕ → ℕ) (value : ℕ → X) (many x : ℕ)
    → ((k : ℕ) → k < many → P (value k)) → P (f x) → P (writes f place value many x)
writes_has P f place value zero x values was = was
writes_has P f place value (suc k) x values was =
    search (rules, writes_has P f place value k x (λ j lj. values j (omega arith)) was)

-- Where each place is written with what stands at one place, that one stays.
writes_keep : {X : Type 0} (f : ℕ → X) (place : ℕ → ℕ) (a many : ℕ) → writes f place (λ k. f a) many a ≡ f a
writes_keep f place a zero = refl
writes_keep f place a (suc k) = grind (arith, writes_keep f place a k)

module _ {h0 h1 : Handles} {lists : Lists} {after : List ℕ} {front many set' k x : ℕ}
    (has : HasPartLists h0 lists after front many set') (l : k < many) (x_is : x ≡ walk (λ i. get_or after i 0) front k)
    (done : HasHandedRow h0 h1 lists after front k set') where
  abbrev at : ℕ → ℕ
  at i = walk (λ i. get_or after i 0) front i

  abbrev mine : ℕ
  mine = get_or lists.leader.items (at k) 0

  abbrev leader : ℕ
  leader = get_or lists.leader.items set' 0

  abbrev read : List ℤ → ℕ → ℤ
  read xs i = get_or xs i (pos 0)

  was : HasListAt h0 lists (at k)
  was = has.each k l

  -- The part's list and its leader: a vertex of this part is in none before.
  pub part_needs : HasListAt h1 lists x × HasOwnLeader h1 lists x set'
  part_needs = rw x_is (
    list_kept was done.hands done.qs (λ v. rw (done.q v) (was.small v)),
    record {
      low_x = rw has.leader (has.row.low k l);
      low_set = rw has.leader has.set_low;
      top = rw done.tops (has.tops k l);
      off = rw (done.offs ∙ has.offs) (has.tops k l);
      set_off = rw (done.offs ∙ has.offs) has.set_top;
      same = λ e v on. done.other v (λ i li. grind (arith, has.apart i k v)) ∙ (has.led k v l on ∙ sym e);
    },
  )

  -- One part more.
  pub row_more : {h2 : Handles} {j : ℕ} → j ≡ suc k → HasHandedOver h1 h2 lists x set'
      → HasHandedRow h0 h2 lists after front j set'
  row_more {h2} {j} j_is one' = (rw j_is (record {
    own = λ i v li on. grind (arith, one.hand v, has.apart i k v, done.own i v);
    other = λ v off. one.hand v ∙ (cond-false _ _ _ (off k (omega arith)) ∙ done.other v (search rules));
    q = λ v. one.q v ∙ done.q v;
    hands = one.hands ∙ done.hands;
    qs = one.qs ∙ done.qs;
    top = ap (λ xs i. get_or xs i 0) one.top ∙ (entry_set h1.top.items _ (at k) 0 (rw done.tops (has.tops k l))
        ∙ ap (λ (f : ℕ → ℕ). set_at f mine (at k)) done.top);
    tops = ap length one.top ∙ (length-set h1.top.items mine (at k) ∙ done.tops);
    off = ap read one.off ∙ (entry_set _ mine _ (pos 0) (rw (done.offs ∙ has.offs) (has.tops k l))
        ∙ (ap (set_at _ mine) set_off ∙ ap (λ (f : ℕ → ℤ). set_at f mine (read h0.off.items leader)) done.off));
    offs = ap length one.off ∙ (length-set h1.off.items mine (read h1.off.items leader) ∙ done.offs);
  }))
    where
      one : HasHandedOver h1 h2 lists (at k) set'
      one = rw x_is at one'

      set_off : read h1.off.items leader ≡ read h0.off.items leader
      set_off = ap (λ (f : ℕ → ℤ). f leader) done.off ∙ writes_keep _ (λ i. get_or lists.leader.items (at i) 0) _ k

-- Lists of vertices that are joined one after another.

-- A list is the same over tables that agree on it.
pub walk_agrees : (next other : ℕ → ℕ) (from many : ℕ) → ((k : ℕ) → suc k < many → other (walk next from k)
    ≡ next (walk next from k)) → (k : ℕ) → k < many → walk other from k ≡ walk next from k
walk_agrees next other from many same zero l = refl
walk_agrees next other from many same (suc k) l = search (rules, walk_agrees next other from many same k (omega arith))

pub listed_agrees : (next other : ℕ → ℕ) (from many : ℕ) → ((k : ℕ) → k < many → walk other from k ≡ walk next from k)
    → (v k : ℕ) → k ≤ many → listed other from k v ≡ listed next from k v
listed_agrees next other from many walks v zero l = refl
listed_agrees next other from many walks v (suc k) l =
    cc (listed_agrees next other from many walks v k (omega (arith, l)), walks k (omega (arith, l)))

pub list_agrees : {n : ℕ} {next : ℕ → ℕ} (other : ℕ → ℕ) {from to many : ℕ} {set : ℕ → Bool}
    → IsListed n next from to many set → ((k : ℕ) → suc k < many → other (walk next from k) ≡ next (walk next from k))
    → IsListed n other from to many set
list_agrees {n} {next} other {from} {many} is same =
    let walks = walk_agrees next other from many same in
    search (rules, listed_agrees next other from many walks, walks)

-- The same list of the same set under another name.
pub list_renamed : {n : ℕ} {next : ℕ → ℕ} {from to many : ℕ} {set : ℕ → Bool} (other : ℕ → Bool)
    → IsListed n next from to many set → ((v : ℕ) → v < n → set v ≡ other v) → IsListed n next from to many other
list_renamed {n} {next} {from} {many = many} other is same =
    let all : (v : ℕ) → v < n → listed next from many v ≡ other v = λ v l. is.all v l ∙ same v l in
    assumption

-- The members as such, and the last of them.
pub list_member : {n : ℕ} {next : ℕ → ℕ} {from to many : ℕ} {set : ℕ → Bool} → IsListed n next from to many set
    → (k : ℕ) → k < many → set (walk next from k) ≡ true
list_member {next} {from} {many} is k l = sym (is.all _ (is.low k l)) ∙ listed_at next from many k l

pub list_has_last : {n : ℕ} {next : ℕ → ℕ} {from to many : ℕ} {set : ℕ → Bool} → IsListed n next from to many set
    → (to < n) × (set to ≡ true)
list_has_last {n} {next} {from} {to} {many} {set} is = search rules

-- A list as many members as it counts.
pub list_count : {n : ℕ} {next : ℕ → ℕ} {from to many : ℕ} {set : ℕ → Bool} → IsListed n next from to many set
    → count_below (λ v. bool_number (set v)) n ≡ many
list_count {n} {next} {from} {many} {set} is =
    let sum = count_below_same _ _ n (λ v l. ap bool_number (sym (is.all v l)) ∙ listed_sum _ _ _ v is.distinct) in
    omega (arith, sum, counts_exchanged next (λ p v. bool_number (eqb v p)) from n many, ones many (omega arith))
  where
    one : (p : ℕ) → p < n → count_below (λ v. bool_number (eqb v p)) n ≡ 1
    one p l = count_below_one _ n p l (λ k lk ne. ap bool_number (ne_eqb k p ne)) ∙ ap bool_number (eq-eqb p p refl)

    ones : (k : ℕ) → k ≤ many → ring_sum next (λ p. count_below (λ v. bool_number (eqb v p)) n) from k ≡ k
    ones zero l = refl
    ones (suc k) l = omega (arith, ones k (omega arith), one _ (is.low k (omega arith)))

pub list_few : {n : ℕ} {next : ℕ → ℕ} {from to many : ℕ} {set : ℕ → Bool} → IsListed n next from to many set → many ≤ n
list_few {n} {set} is =
    let below = count_below_le (λ v. bool_number (set v)) (λ v. 1) n (λ k l. once_at_most (set k)) in
    omega (arith, list_count is, count_below_ones n)

-- Two lists, of which the second begins where the first ends.
pub list_joined : {n : ℕ} {next : ℕ → ℕ} {a b m c d k : ℕ} {s t : ℕ → Bool} → IsListed n next a b m s → IsListed n next
    c d k t → next b ≡ c → ((v : ℕ) → s v ≡ true → t v ≡ true → ⊥) → IsListed n next a d (m + k) (λ v. s v || t v)
list_joined {n} {next} {a} {b} {m} {c} {d} {k} {s} {t} one two seam apart = record {
  all = λ v l. listed_parts next a m k v ∙ (cc (one.all v l, turn, two.all v l));
  low = λ i l. elim (cases_lt i m) [ inl li ↦ one.low i li | inr h ↦ rw (past i h) (two.low (i - m) (omega arith)) ];
  distinct = λ i j lij lj e. (grind (arith, past i, past j, list_member one i, list_member two (j - m)));
  ends = λ j e. past j (omega arith) ∙ two.ends (j - m) (omega arith);
  some = omega arith;
}
  where
    turn : walk next a m ≡ c
    turn = let e : suc (m - 1) ≡ m = omega arith in
        ap (walk next a) (sym e) ∙ (ap next (one.ends (m - 1) e) ∙ seam)

    past : (j : ℕ) → m ≤ j → walk next a j ≡ walk next c (j - m)
    past j h = let e : m + (j - m) ≡ j = omega arith in
        ap (walk next a) (sym e) ∙ (walk_sum next a m (j - m) ∙ ap (λ x. walk next x (j - m)) turn)

-- The lists of the blossoms of a row.
module _ (n : ℕ) (next after first last rank : ℕ → ℕ) (front many : ℕ) (out : ℕ → ℕ) (distinct : (i j : ℕ) → i < j
    → j < many → walk after front i ≢ walk after front j)
    (each : (k : ℕ) → k < many → IsListed n next (first (walk after front k)) (last (walk after front k))
    (rank (walk after front k)) (λ v. eqb (out v) (walk after front k))) where
  -- They have no more members together than there are vertices.
  counts : (k : ℕ) → k ≤ many → ring_sum after rank front k
      ≡ ring_sum after (λ p. count_below (λ v. bool_number (eqb (out v) p)) n) front k
  counts zero l = refl
  counts (suc k) l = omega (arith, counts k (omega (arith, l)), list_count (each k (omega arith)))

  pub row_few : ring_sum after rank front many ≤ n
  row_few =
      let below = count_below_le (λ v. ring_sum after (λ p. bool_number (eqb (out v) p)) front many) (λ v. 1) n
      (λ v lv. (let sum = listed_sum after front many (out v) distinct in
      omega (arith, once_at_most (listed after front many (out v))))) in
      let swap = counts_exchanged after (λ p v. bool_number (eqb (out v) p)) front n many in
      omega (arith, counts many (omega arith), count_below_ones n)

  -- They are joined, where each begins where the one before it ends.
  pub row_joined : ((k : ℕ) → suc k < many → next (last (walk after front k)) ≡ first (walk after front (suc k)))
      → (k : ℕ) → k < many → IsListed n next (first front) (last (walk after front k))
      (ring_sum after rank front (suc k)) (λ v. listed after front (suc k) (out v))
  row_joined seams zero l = (let one : rank front ≡ 0 + rank front = omega arith in
      rw one at (list_renamed _ (each 0 l) (λ v lv. eqb_order _ _)))
  row_joined seams (suc k) l = list_renamed _ (list_joined (row_joined seams k (omega arith)) (each (suc k) l)
      (seams k l) (λ v on too. (let w = listed_place _ _ _ _ on in
      distinct w.0 (suc k) w.1 l (w.2 ∙ eqb-true (out v) (walk after _ (suc k)) too)))) (search rules)
