-- Climbing after a row of outermost blossoms got a set around them.
use Rattle.std.proofs.Common.{rules, ◌≡◌, ◌≢◌, ℕ, zero, suc, ◌+◌, ◌<◌, ◌≤◌, Bool, true, false, cond, eqb, ◌||◌, refl}
use Rattle.std.proofs.Common.{◌∙◌, ap, subst, inl, inr, arith, List, get_or, sym}
use Rattle.std.proofs.lemmas.Bool.{cases_eq, cases_Bool, eq-eqb, eqb-true, or_cases}
use Rattle.def_forest.specs.{Forests.walk, Tables.climbs, Tables.out_of, Tables.up_at}
use Rattle.forest_laws.proofs.Walks.{walk_front, walk_fixed}
use Rattle.qm_forest.specs.Ties.{IsClimb, IsInUse, IsLaidOut, IsListed}
use Rattle.qm_forest.proofs.{Fresh.OnWayFrom, Fresh.fixed_top, Fresh.rank_low, Fresh.goes_on, Fresh.climbs_self}
use Rattle.qm_forest.proofs.{JoinedLists.list_few, JoinedLists.list_has_last, JoinedLists.list_member}

-- One comes past where one is.
pub climbs_here : (up : ℕ → ℕ) (k b : ℕ) → climbs up k b b ≡ true
climbs_here up zero b = eq-eqb b b refl
climbs_here up (suc k) b = ap (λ (s : Bool). s || climbs up k b (up b)) (eq-eqb b b refl)

-- Where marked outermost blossoms got set b around them, which lay on no way, one climbs by up2 instead of up.
pub record Enclosing (n : ℕ) (up out rank up2 : ℕ → ℕ) (inside : ℕ → Bool) (b : ℕ) : Type 0 where
  pub climb : IsClimb n up out
  pub rises : (x : ℕ) → up x ≢ x → rank x < rank (up x)
  pub ones : (v : ℕ) → v < n → 1 ≤ rank v
  pub few : (v : ℕ) → v < n → rank (out v) ≤ n
  pub high : n ≤ b
  pub tops : (x : ℕ) → inside x ≡ true → up x ≡ x
  pub new : inside b ≡ false
  pub alone : up b ≡ b
  pub unused : (x : ℕ) → x ≢ b → up x ≢ b
  pub ups : (x : ℕ) → up2 x ≡ cond (inside x) b (up x)

module _ {n : ℕ} {up out rank up2 : ℕ → ℕ} {inside : ℕ → Bool} {b : ℕ}
    (enclosing : Enclosing n up out rank up2 inside b) where
  open enclosing use {climb, rises, ones, few, high, tops, new, alone, unused, ups}

  up_b : up2 b ≡ b
  up_b = rw (ups b, new) alone

  up_in : (x : ℕ) → inside x ≡ true → up2 x ≡ b
  up_in x on = rw (ups x, on)

  up_off : (x : ℕ) → inside x ≡ false → up2 x ≡ up x
  up_off x off = rw (ups x, off)

  -- What is not outermost is not in the row.
  off_inner : (x : ℕ) → up x ≢ x → inside x ≡ false
  off_inner x inner = elim (cases_Bool (inside x)) [ inl on ↦ absurd (inner (tops x on)) | inr off ↦ off ]

  -- The new set lies on no way.
  pub not_new : (v i : ℕ) → v < n → walk up v i ≢ b
  not_new v zero l e = absurd (omega (arith, l, high, e))
  not_new v (suc i) l e = unused (walk up v i) (not_new v i l) e

  abbrev On : ℕ → ℕ → Type 0
  On = OnWayFrom rank climb rises

  on_way_ne : (v x : ℕ) → v < n → On v x → x ≢ b
  on_way_ne v x l w e = not_new v w.0 l (w.1 ∙ e)

  -- What holds where one stays, and a step before where it holds, holds of the way from a vertex.
  climbing : (P : ℕ → ℕ → Type 0) (v : ℕ) → v < n → ((m x : ℕ) → On v x → up x ≡ x → P (suc m) x)
      → ((m x : ℕ) → On v x → up x ≢ x → P (suc m) (up x) → P (suc (suc m)) x) → P n v
  climbing P v l top step = by_size n refl
    where
      from : (m x : ℕ) → On v x → rank (out v) ≤ rank x + m → P (suc m) x
      from zero x w h =
          let low = rank_low rank climb rises v (up x) l (goes_on rank climb rises v x w) in
          search rules
      from (suc m) x w h = let more = from m (up x) (goes_on rank climb rises v x w) in search rules

      by_size : (k : ℕ) → k ≡ n → P n v
      by_size zero e = absurd (omega arith)
      by_size (suc m) e = subst (λ k. P k v) e (from m v (0, refl) (omega (arith, few v l, ones v l)))

  -- One comes to the new set, or to where one came.
  pub climb_enclosed : IsClimb n up2 (λ v. cond (inside (out v)) b (out v))
  climb_enclosed = record {
    ends = λ v l. climbing (λ k x. walk up2 x k ≡ cond (inside (out v)) b (out v)) v l (λ m x w top.
        (let x_is = fixed_top rank climb rises v l w top in
        search (rules, walk_fixed, walk_front))) (λ m x w inner more. search (rules, walk_front));
    tops = λ v l. grind (arith, up_b, up_off (out v), climb.tops v l);
  }

  -- One comes past the same old blossoms, and past the new set from the vertices of the row.
  pub holds_same : (c v : ℕ) → c ≢ b → v < n → climbs up2 n c v ≡ climbs up n c v
  holds_same c v ne l = climbing (λ k x. climbs up2 k c x ≡ climbs up k c x) v l (search (rules, climbs_self))
      (λ m x w inner more. rw (up_off x (off_inner x inner)) (ap (λ (s : Bool). eqb x c || s) more))

  pub holds_new : (v : ℕ) → v < n → climbs up2 n b v ≡ inside (out v)
  holds_new v l = climbing (λ k x. climbs up2 k b x ≡ inside (out v)) v l
      (λ m x w top. (let x_is = fixed_top rank climb rises v l w top in
      let ne = on_way_ne v x l w in
      grind (arith, up_in x, up_off x, climbs_self up2 m b {v = x}))) (search rules)

-- What the tables of a nest say at once: the outermost blossoms are in use, and their leaders are theirs.

-- What one comes past lies on the way.
pub climbs_place : (up : ℕ → ℕ) (k b from : ℕ) → climbs up k b from ≡ true → (i : ℕ) × (walk up from i ≡ b)
climbs_place up zero b from on = (0, eqb-true from b on)
climbs_place up (suc k) b from on =
    let more = (climbs_place up k b _) in
    elim (or_cases (eqb from b) (climbs up k b (up from)) on) [
      | inl e ↦ (0, eqb-true from b e)
      | inr e ↦ let w = more e in (suc w.0, walk_front up from w.0 ∙ w.1)
    ]

-- Where one comes to from elsewhere one comes by a step.
pub comes_by : (up : ℕ → ℕ) (v i : ℕ) {x : ℕ} → walk up v i ≡ x → v ≢ x → (y : ℕ) × (up y ≡ x) × (y ≢ x) × (j : ℕ)
    × (walk up v j ≡ y)
comes_by up v zero e ne = absurd (ne e)
comes_by up v (suc i) {x} e ne = elim (cases_eq (walk up v i) x) [
  | inl at ↦ comes_by up v i at ne
  | inr off ↦ (walk up v i, e, off, i, refl)
]

module _ {n size : ℕ} {hand top up rank parts leader first last following : List ℕ}
    (nest : IsLaidOut n size hand top up rank parts leader first last following) where
  abbrev out : ℕ → ℕ
  out = out_of hand top

  -- What one comes to is in use.
  pub reached_used : (v i : ℕ) {x : ℕ} → v < n → walk (up_at up) v i ≡ x → IsInUse n parts x
  reached_used v i {x} l e = grind (arith, cases_eq v x, comes_by (up_at up) v i e, nest.around)

  pub out_used : (v : ℕ) → v < n → IsInUse n parts (out v)
  out_used v l = reached_used v n l (nest.climb.ends v l)

  pub out_size : (v : ℕ) → v < n → out v < size
  out_size v l = nest.outs _ (nest.hands v l)

  pub list_of : (v : ℕ) → v < n → IsListed n (λ k. get_or following k 0) (get_or first (out v) 0)
      (get_or last (out v) 0) (get_or rank (out v) 0) (climbs (up_at up) n (out v))
  list_of v l = nest.members (out v) (out_size v l) (out_used v l)

  pub rank_few : (v : ℕ) → v < n → get_or rank (out v) 0 ≤ n
  rank_few v l = list_few (list_of v l)

  pub rank_some : (v : ℕ) → v < n → n ≤ size → 1 ≤ get_or rank v 0
  rank_some v l le = (nest.members v (omega arith) (inl l)).some

  -- A vertex in an outermost blossom has it as its own.
  pub held_out : (v w : ℕ) → v < n → w < n → climbs (up_at up) n (out v) w ≡ true → out w ≡ out v
  held_out v w lv lw on = sym (fixed_top _ nest.climb nest.rises w lw (climbs_place _ n _ w on) (nest.climb.tops v lv))

  -- The leader of an outermost blossom is one of its vertices.
  pub leader_low : (v : ℕ) → v < n → get_or leader (out v) 0 < n
  leader_low v l = (nest.leaders (out v) (out_size v l) (out_used v l)).0

  pub leader_out : (v : ℕ) → v < n → out (get_or leader (out v) 0) ≡ out v
  leader_out v l = held_out v _ l (leader_low v l) (nest.leaders (out v) (out_size v l) (out_used v l)).1

  -- What one comes past has no more vertices than the outermost.
  pub rank_passed : (v y : ℕ) → v < n → climbs (up_at up) n y v ≡ true → get_or rank y 0 ≤ get_or rank (out v) 0
  rank_passed v y l on = rank_low (λ x. get_or rank x 0) nest.climb nest.rises v y l (climbs_place _ n y v on)

  -- The last vertex of an outermost blossom is the last of each list that it is on.
  pub last_free : (v y j : ℕ) → v < n → y < size → IsInUse n parts y → suc j < get_or rank y 0
      → walk (λ k. get_or following k 0) (get_or first y 0) j ≢ get_or last (out v) 0
  last_free v y j lv ly used l e =
      let more = nest.ended (out v) y j (out_size v lv) ly (out_used v lv) used l e in
      let mine = list_has_last (list_of v lv) in
      let low : get_or rank y 0 ≤ get_or rank (out (get_or last (out v) 0)) 0 = rank_passed _ y
      mine.0 (rw e at (list_member (nest.members y ly used) j (omega arith))) in
      search (rules, held_out)

-- One comes past where one comes to.
pub came_past : (up : ℕ → ℕ) (k v x : ℕ) → walk up v k ≡ x → climbs up k x v ≡ true
came_past up zero v x e = eq-eqb v x e
came_past up (suc k) v x e = search (rules, came_past up k (up v) x (sym (walk_front up v k) ∙ e))
