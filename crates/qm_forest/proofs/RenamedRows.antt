-- One vertex of a list, or one blossom of a row, more.
use Rattle.std.proofs.Common.{rules, ◌≡◌, ◌≢◌, ℕ, suc, ◌<◌, ◌≤◌, ◌^◌, Bool, true, false, cond, eqb, List, length}
use Rattle.std.proofs.Common.{get_or, ℤ, pos, ◌+ℤ◌, ◌-ℤ◌, sym, ◌∙◌, ap, inl, inr, arith}
use Rattle.std.proofs.{Math.ListN.set, lemmas.Int.ints, Math.Bool.or-false, Math.Bool.or-true, lemmas.List.get_or_past}
use Rattle.std.proofs.lemmas.Bool.{cases_eq, cond-false, eq-eqb, ne_eqb}
use Rattle.forest_laws.proofs.{Bounds.eqb_order, Walks.listed_off, Walks.listed_place}
use Rattle.qm_forest.specs.Gathers.{lists_at, differ_by, in_row, HasListAt, HasListsOf, HasLeaders, HasRenamed, IsRow}
use Rattle.qm_forest.specs.{Gathers.HasRenamedRow, declared.tables.Handles.Handles, declared.tables.Lists.Lists}
use Rattle.{std.proofs.lemmas.List.get_or_read, def_forest.specs.Forests.walk, def_forest.specs.Tables.out_of}
use Rattle.{std.specs.Prelude.unsigned_abs, forest_laws.specs.Walks.listed, forest_laws.specs.Walks.writes}

-- What is added is told otherwise.
pub more_as : (F : ℕ → ℤ) (B : ℕ → Bool) (G : ℕ → ℤ) {m n : ℤ} → m ≡ n → ((v : ℕ) → F v ≡ cond (B v) (G v +ℤ m) (G v))
    → (v : ℕ) → F v ≡ cond (B v) (G v +ℤ n) (G v)
more_as F B G e was v = was v ∙ ap (λ (x : ℤ). cond (B v) (G v +ℤ x) (G v)) e

-- The list of a blossom is the same over other handles.
pub list_kept : {h0 h1 : Handles} {lists : Lists} {x : ℕ} → HasListAt h0 lists x
    → length h1.hand.items ≡ length h0.hand.items → length h1.q.items ≡ length h0.q.items
    → ((v : ℕ) → unsigned_abs (get_or h1.q.items v (pos 0)) ≤ 2 ^ 100) → HasListAt h1 lists x
list_kept was hands qs small = grind arith

-- The next vertex of a blossom's list, where tables are written at those before it.
module _ {h : Handles} {lists : Lists} {x : ℕ} (has : HasListAt h lists x) {k v : ℕ} (l : k < get_or lists.rank.items x
    0) (v_is : v ≡ walk (λ i. get_or lists.following.items i 0) (get_or lists.first.items x 0) k) where
  abbrev next : ℕ → ℕ
  next i = get_or lists.following.items i 0

  abbrev from : ℕ
  from = get_or lists.first.items x 0

  distinct : (i j : ℕ) → i < j → j < suc k → walk next from i ≢ walk next from j
  distinct i j lij lj = has.distinct i j lij (omega arith)

  pub next_low : v < length h.hand.items
  next_low = rw v_is (has.low k l)

  -- What stands at it has not been changed.
  pub next_old : {X : Type 0} (f new old : ℕ → X) → ((u : ℕ) → f u ≡ cond (listed next from k u) (new u) (old u))
      → f v ≡ old v
  next_old f new old was = search (rules, listed_off)

  -- It is written.
  pub next_written : {X : Type 0} (xs : List X) (d : X) (new old : ℕ → X) → v < length xs
      → ((u : ℕ) → get_or xs u d ≡ cond (listed next from k u) (new u) (old u)) → {j : ℕ} → j ≡ suc k → {y : X}
      → y ≡ new v → (u : ℕ) → get_or (set xs v y) u d ≡ cond (listed next from j u) (new u) (old u)
  next_written xs d new old low was j_is y_is u = search rules

-- Some blossoms of a row are renamed: what the loop over the row has at the next one, and what holds after it.
module _ {h0 h1 : Handles} {lists : Lists} {after : List ℕ} {front many k x big : ℕ}
    (has : HasListsOf h0 lists after front many) (l : k < many) (x_is : x ≡ walk (λ i. get_or after i 0) front k)
    (done : HasRenamedRow h0 h1 lists after front k big) where
  open has use {row}

  abbrev at : ℕ → ℕ
  at i = walk (λ i. get_or after i 0) front i

  abbrev handle : ℕ
  handle = get_or lists.leader.items big 0

  abbrev out : ℕ → ℕ
  out v = out_of h0.hand.items h0.top.items v

  own : (v : ℕ) → v < length h0.hand.items → lists_at lists (at k) v ≡ eqb (out v) (at k)
  own v lv = has.own k v l lv

  before_off : (v : ℕ) → out v ≡ at k → in_row h0 after front k v ≡ false
  before_off v e = listed_off (λ i. get_or after i 0) front k (out v) (λ j lj w. row.distinct j k lj l (w ∙ e))

  pub row_leaders : ((j : ℕ) × (j < many) × (at j ≡ big)) → HasLeaders h1 lists x big
  row_leaders on = search (rules, listed_place)

  pub row_lists : ((j : ℕ) × (j < many) × (at j ≡ big)) → HasListAt h1 lists x
  row_lists on = rw x_is (list_kept (has.each k l) done.hands done.qs (search (rules, by_test, get_or_past)))
    where
      small_handle : unsigned_abs (get_or h0.off.items handle (pos 0)) ≤ 2 ^ 97
      small_handle = rw on.2 at (has.small_leaders on.0 on.1)

      by_test : (v : ℕ) → v < length h0.hand.items → (s : Bool) → get_or h1.q.items v (pos 0)
          ≡ cond s ((get_or h0.q.items v (pos 0) +ℤ get_or h0.off.items (get_or h0.hand.items v 0) (pos 0))
          -ℤ get_or h0.off.items handle (pos 0)) (get_or h0.q.items v (pos 0))
          → unsigned_abs (get_or h1.q.items v (pos 0)) ≤ 2 ^ 100
      by_test v lv true e = omega (arith, ints, e, has.small_q v, has.small_off v lv, small_handle)
      by_test v lv false e = omega (arith, ints, e, has.small_q v)

  -- A blossom of the row more is renamed.
  module _ {h2 : Handles} (renamed : HasRenamed h1 h2 lists x handle (differ_by h1 lists x big)) where
    renamed_at : HasRenamed h1 h2 lists (at k) handle (differ_by h0 lists (at k) big)
    renamed_at = search rules

    pub row_more : {j : ℕ} → j ≡ suc k → HasRenamedRow h0 h2 lists after front j big
    row_more j_is = rw j_is (record {
      hand = λ v lv. renamed_at.hand v ∙ rw (own v lv ∙ eqb_order (out v) (at k)) (search rules);
      q = λ v lv. renamed_at.q v ∙ rw (own v lv ∙ eqb_order (out v) (at k)) (elim (cases_eq (at k) (out v)) [
        | inl e ↦ (let was : get_or h1.q.items v (pos 0) ≡ get_or h0.q.items v (pos 0) =
            done.q v lv ∙ cond-false _ _ _ (before_off v (sym e)) in
            let lead : get_or h0.off.items (get_or h0.hand.items v 0) (pos 0)
            ≡ get_or h0.off.items (get_or lists.leader.items (at k) 0) (pos 0) = search rules in
            rw (eq-eqb (at k) (out v) e, or-true (in_row h0 after front k v)) (omega (arith, ints, was, lead)))
        | inr ne ↦ rw (ne_eqb (at k) (out v) ne, or-false (in_row h0 after front k v)) (done.q v lv)
      ]);
      hands = renamed.hands ∙ done.hands;
      qs = renamed.qs ∙ done.qs;
      top = renamed.top ∙ done.top;
      off = renamed.off ∙ done.off;
    })

-- A place of a row is low.
pub row_place : {after : List ℕ} {front many : ℕ} (k : ℕ) {x : ℕ} → IsRow (length after) after front many → k < many
    → x ≡ walk (λ i. get_or after i 0) front k → x < length after
row_place {after} k row l x_is = rw x_is (row.low k l)

-- One entry more is written.
pub written_more : (xs ys : List ℕ) (place value : ℕ → ℕ) (k : ℕ) {j p v : ℕ} → p < length xs → (λ i. get_or xs i 0)
    ≡ writes (λ i. get_or ys i 0) place value k → p ≡ place k → v ≡ value k → j ≡ suc k → (λ i. get_or (set xs p v) i 0)
    ≡ writes (λ i. get_or ys i 0) place value j
written_more xs ys place value k {p} {v} low was p_is v_is j_is = search rules

-- A table that has not changed, with an entry for each blossom, has one for each of a row; and what is read there.
module _ {after : List ℕ} {front many : ℕ} (k : ℕ) {x : ℕ} (row : IsRow (length after) after front many) (l : k < many)
    (x_is : x ≡ walk (λ i. get_or after i 0) front k) {xs ys : List ℕ} (same : xs ≡ ys)
    (size : length ys ≡ length after) where
  pub entry_low : x < length xs
  entry_low = rw (same, size) (row_place k row l x_is)

  pub entry_read : {v : ℕ} → v ≡ get_or xs x v → v ≡ get_or ys (walk (λ i. get_or after i 0) front k) 0
  entry_read {v} read = get_or_read xs x v entry_low read 0 ∙ rw (same, x_is)

-- A blossom that keeps its handle is as if renamed.
pub kept_handle : (h : Handles) (lists : Lists) {x big : ℕ} → x ≡ big
    → ((v : ℕ) → lists_at lists x v ≡ true → get_or h.hand.items v 0 ≡ get_or lists.leader.items big 0)
    → HasRenamed h h lists x (get_or lists.leader.items big 0) (differ_by h lists x big)
kept_handle h lists {x} {big} e same = search rules
