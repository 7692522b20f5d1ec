-- A ring of outermost blossoms is gathered into a set: what its blossoms, their lists and their handles are before,
-- what each loop needs, and the tie and the forest after all of them.
use Rattle.std.proofs.Common.{rules, ◌≡◌, ◌≢◌, ℕ, suc, ◌-◌, ◌<◌, ◌≤◌, ◌^◌, Bool, true, false, cond, eqb, List, length}
use Rattle.std.proofs.Common.{get_or, pos, Option, Some, None, refl, sym, ◌∙◌, ap, subst, inl, inr, length-set}
use Rattle.std.proofs.{Common.get_or-set_same, Common.get_or-set_other, Common.arith, Math.ListN.set, lemmas.Int.ints}
use Rattle.std.proofs.lemmas.{List.get_or_default, List.get_or_past, Option.slice_get_within, Grind.common_steps}
use Rattle.std.proofs.lemmas.Bool.{cases_eq, cases_Bool, cond-true, cond-false, eq-eqb, eqb-true}
use Rattle.def_forest.specs.Tables.{ForestTables, forest_of, climbs, label_at, out_of, up_at}
use Rattle.def_forest.specs.Forests.{walk, ring_sum, set_at}
use Rattle.forest_laws.proofs.Walks.{listed_at, listed_off, listed_place, writes_all, writes_at, writes_off}
use Rattle.qm_forest.specs.Gathers.{AreEnclosed, AreJoinable, AreJoined, HasListAt, HasListsOf, HasRenamedRow}
use Rattle.qm_forest.specs.Gathers.{IsFreeRing, IsGathered, TookSet, root_around}
use Rattle.qm_forest.specs.{Views.tables_of, Views.hidden_of, declared.forest.Forest.TheInside.Inside}
use Rattle.qm_forest.specs.{declared.tables.Handles.Handles, declared.tables.Lists.Lists, declared.tables.Rings.Rings}
use Rattle.qm_forest.specs.Ties.{AreTied, HiddenTables, IsInUse, IsLaidOut, IsListed}
use Rattle.qm_forest.proofs.Enclosed.{Enclosing, climb_enclosed, holds_new, holds_same, came_past, held_out, last_free}
use Rattle.qm_forest.proofs.Enclosed.{leader_low, leader_out, out_used, rank_few, rank_passed, rank_some, reached_used}
use Rattle.qm_forest.proofs.{Shrinkings.seen_in, Shrinkings.hidden_in, Waitings.pool_changed}
use Rattle.qm_forest.proofs.JoinedLists.{list_agrees, list_few, list_has_last, list_member, list_renamed, row_few}
use Rattle.qm_forest.proofs.JoinedLists.{row_joined, walk_agrees, ring_sum_above}
use Rattle.qm_forest.proofs.TiedWrites.{numbers_kept, tied_as, trail_kept, added_small, change_small, delta_small}
use Rattle.qm_forest.proofs.TiedWrites.{outermost_low, told_small, entry_set}
use Rattle.{def_forest.specs.declared.kinds.Label.TheVariants.Outside, forest_laws.specs.Walks.listed}
use Rattle.{std.specs.Prelude.unsigned_abs, qm_pool.specs.declared.pool.Node.Node, sum_laws.proofs.Tests.same_test}

module _ {t : ForestTables} {hid : HiddenTables} (tied : AreTied t hid) where
  off_small : (v : ℕ) → v < length t.hand → unsigned_abs (get_or hid.off (get_or t.hand v 0) (pos 0)) ≤ 2 ^ 97
  off_small v lv =
      let change = change_small (label_at t.label (out_of t.hand t.top v)) t.delta in
      omega (arith, ints, added_small tied v lv, delta_small tied)

  pub q_small : (v : ℕ) → unsigned_abs (get_or hid.q v (pos 0)) ≤ 2 ^ 97
  q_small v = grind (arith, ints, told_small tied v, added_small tied v, get_or_past hid.q v (pos 0), tied.sizes.q)

-- The list of a blossom, as the loops read it.
pub list_read : (s : Inside) {x to : ℕ} {set : ℕ → Bool} → AreTied (seen_in s) (hidden_in s)
    → x < length s.rings.up.items → IsListed (length s.handles.hand.items) (λ i. get_or s.lists.following.items i 0)
    (get_or s.lists.first.items x 0) to (get_or s.lists.rank.items x 0) set → HasListAt s.handles s.lists x
list_read s tied low list =
    let few : length s.handles.hand.items ≤ 2 ^ 26 = omega arith in
    let small : (v : ℕ) → unsigned_abs (get_or s.handles.q.items v (pos 0)) ≤ 2 ^ 100 =
    λ v. omega (arith, q_small tied v) in
    assumption (rw (← tied.sizes.first) at low, rw (← tied.sizes.rank) at low, list_few list)

-- A ring that is free to be gathered, and the number that is taken for its set.
pub record Taken (s : Inside) (pool2 : List (Option Node)) (front many b : ℕ) : Type 0 where
  pub tied : AreTied (seen_in s) (hidden_in s)
  pub ring : IsFreeRing (seen_in s) front many
  pub took : TookSet s.pool pool2 (length s.handles.hand.items) b

module _ {s : Inside} {pool2 : List (Option Node)} {front many b : ℕ} (taken : Taken s pool2 front many b) where
  open taken use {tied, ring, took}

  abbrev t : ForestTables
  t = seen_in s

  abbrev hid : HiddenTables
  hid = hidden_in s

  abbrev n : ℕ
  n = length t.hand

  abbrev at : ℕ → ℕ
  at k = walk (λ i. get_or t.after i 0) front k

  abbrev inside : ℕ → Bool
  inside = listed (λ i. get_or t.after i 0) front many

  abbrev out : ℕ → ℕ
  out = out_of t.hand t.top

  abbrev leader : ℕ → ℕ
  leader x = get_or hid.leader x 0

  abbrev rank : ℕ → ℕ
  rank x = get_or t.rank x 0

  abbrev first : ℕ → ℕ
  first x = get_or hid.first x 0

  abbrev last : ℕ → ℕ
  last x = get_or hid.last x 0

  abbrev next : ℕ → ℕ
  next v = get_or hid.following v 0

  high : n ≤ b
  high = omega arith

  pub set_low : b < length s.rings.up.items
  set_low = omega (arith, slice_get_within s.pool took.id None took.free)

  dead : get_or t.parts b 0 ≡ 0
  dead = ap (λ x. get_or t.parts x 0) took.is ∙ tied.pool.free took.id took.free

  -- The new number lies on no way.
  no_out : (v : ℕ) → v < n → out v ≢ b
  no_out v l e = grind (arith, reached_used tied.nest v n l (tied.nest.climb.ends v l ∙ e), high, dead)

  unused : (x : ℕ) → x ≢ b → up_at t.up x ≢ b
  unused x ne e = (tied.nest.around x (λ s. ne (sym s ∙ e))).1 (ap (λ y. get_or t.parts y 0) e ∙ dead)

  alone : up_at t.up b ≡ b
  alone = tied.nest.idle b high dead

  b_outside : label_at t.label b ≡ Outside
  b_outside = search (rules, no_out)

  -- What is in the row is the outermost blossom of a vertex, and outside the tree.
  in_row : (x : ℕ) → inside x ≡ true
      → (v : ℕ) × (v < n) × (out v ≡ x) × (up_at t.up x ≡ x) × (label_at t.label x ≡ Outside)
  in_row x on =
      let w : (k : ℕ) × (k < many) × (at k ≡ x) = listed_place _ front many x on in
      let v = ring.tops w.0 w.1 in
      let is : out v.0 ≡ x = v.2 ∙ w.2 in
      (v.0, v.1, is, (rw is at (tied.nest.climb.tops v.0 v.1)), ap (label_at t.label) (sym w.2) ∙ ring.outside w.0 w.1)

  b_off : inside b ≡ false
  b_off = listed_off _ front many b (λ k l e. (let v = ring.tops k l in no_out v.0 v.1 (v.2 ∙ e)))

  -- The leader of a blossom of the row is a vertex of it whose handle it is.
  leader_at : (k : ℕ) → k < many
      → (leader (at k) < n) × (out (leader (at k)) ≡ at k) × (get_or t.hand (leader (at k)) 0 ≡ leader (at k))
  leader_at k l =
      let v = ring.tops k l in
      let lv : leader (at k) < n = rw v.2 at (leader_low tied.nest v.0 v.1) in
      let own : out (leader (at k)) ≡ at k = rw v.2 at (leader_out tied.nest v.0 v.1) in
      (lv, own, tied.nest.led (leader (at k)) lv ∙ ap leader own)

  -- The lists of the row: a vertex is on one as the blossom is its outermost one.
  row_used : (k : ℕ) → k < many → IsInUse n t.parts (at k)
  row_used k l = let w = ring.tops k l in subst (IsInUse n t.parts) w.2 (out_used tied.nest w.0 w.1)

  own_list : (k : ℕ) → k < many → IsListed n next (first (at k)) (last (at k)) (rank (at k)) (λ v. eqb (out v) (at k))
  own_list k l =
      let w = ring.tops k l in
      list_renamed (λ v. eqb (out v) (at k)) (tied.nest.members (at k) (ring.row.low k l) (row_used k l))
      (λ v lv. same_test _ _ (λ on. eq-eqb (out v) (at k) (held_out tied.nest w.0 v w.1 lv
      (ap (λ y. climbs (up_at t.up) n y v) w.2 ∙ on) ∙ w.2)) (search (rules, came_past)))

  row_ended : (k y j : ℕ) → k < many → y < length t.up → IsInUse n t.parts y → suc j < rank y
      → walk next (first y) j ≢ last (at k)
  row_ended k y j l ly used lj e = let w = ring.tops k l in
      last_free tied.nest w.0 y j w.1 ly used lj (e ∙ ap last (sym w.2))

  last_in : (k : ℕ) → k < many → (last (at k) < n) × (out (last (at k)) ≡ at k)
  last_in k l = let w = list_has_last (own_list k l) in (w.0, eqb-true (out (last (at k))) (at k) w.1)

  pub lists_of_row : HasListsOf s.handles s.lists s.rings.after.items front many
  lists_of_row = record {
    row = rw tied.sizes.after ring.row;
    each = λ k lk. list_read s tied (ring.row.low k lk) (own_list k lk);
    own = λ k v lk lv. (own_list k lk).all v lv;
    leader = tied.sizes.leader ∙ sym tied.sizes.after;
    rank = tied.sizes.rank ∙ sym tied.sizes.after;
    leaders = λ k lk. rw (tied.sizes.off, tied.sizes.top) (leader_at k lk).0;
    led = tied.nest.led;
    small_q = q_small tied;
    small_off = off_small tied;
    small_leaders = λ k lk. rw (leader_at k lk).2 at (off_small tied _ (leader_at k lk).0);
  }

  pub joinable : AreJoinable s.lists s.rings.after.items front many
  joinable =
      let all = row_few n next _ first last rank front many out ring.row.distinct own_list in
      search (rules, last_in)

  module _ {big : ℕ} (on : (k : ℕ) × (k < many) × (at k ≡ big)) where
    pub big_low : big < length s.lists.leader.items
    big_low = rw tied.sizes.leader (rw on.2 at (ring.row.low on.0 on.1))

    abbrev handle : ℕ
    handle = leader big

    handle_at : (handle < n) × (out handle ≡ big) × (get_or t.hand handle 0 ≡ handle)
    handle_at = rw on.2 at (leader_at on.0 on.1)

    big_in : inside (out handle) ≡ true
    big_in = ap inside (handle_at.1 ∙ sym on.2) ∙ listed_at _ front many on.0 on.1

    pub handle_top : handle < length t.top
    handle_top = rw tied.sizes.top handle_at.0

    -- The tables after the loops: the ring's vertices got one handle, its lists were joined, and set b is around it.
    module _ {h2 : Handles} {l2 : Lists} {r2 : Rings} {root2 : Option ℕ} {handle2 : ℕ}
        (renamed : HasRenamedRow s.handles h2 s.lists s.rings.after.items front many big)
        (joined : AreJoined s.lists l2 s.rings.after.items front many b) (enclosed : AreEnclosed s.rings r2 front many
        b) (root_is : root2 ≡ root_around r2.up.items b s.tree.root) (handle_is : handle2 ≡ handle) where
      abbrev next2 : ℕ → ℕ
      next2 v = get_or l2.following.items v 0

      abbrev total : ℕ
      total = ring_sum (λ i. get_or t.after i 0) rank front many

      -- The outermost blossoms, and the way up from then on.
      abbrev out2 : ℕ → ℕ
      out2 = out_of h2.hand.items (set t.top handle b)

      abbrev up2 : ℕ → ℕ
      up2 = up_at r2.up.items

      ups : (x : ℕ) → up2 x ≡ cond (inside x) b (up_at t.up x)
      ups x = ap (λ (f : ℕ → ℕ). f x) enclosed.up ∙ writes_all _ (λ i. get_or t.after i 0) front many b x

      enclosing : Enclosing n (up_at t.up) out rank up2 inside b
      enclosing =
          let ones : (v : ℕ) → v < n → 1 ≤ rank v = λ v lv. rank_some tied.nest v lv tied.sizes.vertices in
          let tops : (x : ℕ) → inside x ≡ true → up_at t.up x ≡ x = λ x marked. (in_row x marked).3 in
          assumption (rank_few tied.nest, high, b_off, alone, unused, ups)

      hand_in : (v : ℕ) → v < n → inside (out v) ≡ true → (get_or h2.hand.items v 0 ≡ handle) × (out2 v ≡ b)
      hand_in v lv marked = search (rules, handle_top)

      hand_off : (v : ℕ) → v < n → inside (out v) ≡ false
          → (get_or h2.hand.items v 0 ≡ get_or t.hand v 0) × (out2 v ≡ out v)
      hand_off v lv off =
          let is : get_or h2.hand.items v 0 ≡ get_or t.hand v 0 = renamed.hand v lv ∙ cond-false _ _ _ off in
          let other : get_or t.hand v 0 ≢ handle = λ same.
          grind (arith, big_in, leader_out tied.nest v lv, tied.nest.led v lv) in
          (is, rw is (get_or-set_other t.top handle (get_or t.hand v 0) b 0 other))

      out_new : (v : ℕ) → v < n → out2 v ≡ cond (inside (out v)) b (out v)
      out_new v lv = grind (arith, hand_in v lv, hand_off v lv)

      -- Entries of the tables.
      at_new : (xs : List ℕ) {ys : List ℕ} (x : ℕ) → ys ≡ set xs b x → length xs ≡ length t.up → get_or ys b 0 ≡ x
      at_new xs x is size = ap (λ zs. get_or zs b 0) is ∙ get_or-set_same xs b x 0 (rw size set_low)

      at_old : (xs : List ℕ) {ys : List ℕ} (x : ℕ) → ys ≡ set xs b x → (y : ℕ) → y ≢ b → get_or ys y 0 ≡ get_or xs y 0
      at_old xs x is y ne = ap (λ zs. get_or zs y 0) is ∙ get_or-set_other xs b y x 0 ne

      still_used : (x : ℕ) → x ≢ b → IsInUse n r2.parts.items x → IsInUse n t.parts x
      still_used x ne used = grind (arith, at_old _ _ enclosed.parts x ne)

      -- Each old list stays, and those of the row are joined.
      old_next : (y : ℕ) → y < length t.up → IsInUse n t.parts y → (k : ℕ) → suc k < rank y
          → next2 (walk next (first y) k) ≡ next (walk next (first y) k)
      old_next y ly used k lk = ap (λ (f : ℕ → ℕ). f (walk next (first y) k)) joined.following ∙ writes_off next
          (λ j. last (at j)) _ _ _ (λ j lj same. row_ended j y k (omega (arith, lj)) ly used lk (sym same))

      new_list : IsListed n next2 (first front) (last (at (many - 1))) total (λ v. inside (out v))
      new_list =
          let whole : suc (many - 1) ≡ many = omega arith in
          subst (λ m. IsListed n next2 (first front) (last (at (many - 1))) (ring_sum (λ i. get_or t.after i 0) rank
          front m) (λ v. listed (λ i. get_or t.after i 0) front m (out v))) whole (row_joined n _ _ first last rank _ _
          _ ring.row.distinct (λ k lk. list_agrees _ (own_list k lk) (old_next _ (ring.row.low k lk) (row_used k lk)))
          (λ k lk. ap (λ (f : ℕ → ℕ). f (last (at k))) joined.following ∙ writes_at next _ _ _ k (omega (arith, lk))
          (λ i j lij lj same. ring.row.distinct i j lij (omega (arith, lj)) (sym (last_in i (omega (arith, lij, lj))).1
          ∙ (ap out same ∙ (last_in j (omega (arith, lj))).1)))) _ (omega arith))

      row_rank : (x : ℕ) → inside x ≡ true → rank x < total
      row_rank x marked = search (rules, listed_place, ring_sum_above, own_list)

      nest_new : IsLaidOut n (length t.up) h2.hand.items (set t.top handle b) r2.up.items l2.rank.items r2.parts.items
          (set hid.leader b handle) l2.first.items l2.last.items l2.following.items
      nest_new =
          let leader_b = get_or-set_same hid.leader b handle 0 (rw tied.sizes.leader set_low) in
          let rank_b = at_new _ _ joined.rank tied.sizes.rank in
          let first_b = at_new _ _ joined.first tied.sizes.first in
          let last_b = at_new _ _ joined.last tied.sizes.last in
          let parts_b = at_new _ _ enclosed.parts tied.sizes.parts in
          let rank_old = at_old _ _ joined.rank in
          let first_old = at_old _ _ joined.first in
          let last_old = at_old _ _ joined.last in
          let parts_old = at_old _ _ enclosed.parts in
          record {
            hands = λ v lv. (let low = tied.nest.hands v lv in
                grind (arith, length-set t.top handle b, hand_in v lv, hand_off v lv, handle_top));
            outs = λ k lk. grind (arith, common_steps, handle_top, set_low, tied.nest.outs k);
            ups = λ x lx. rw (get_or_default r2.up.items x 0 x (rw enclosed.size lx))
                (grind (arith, ups x, get_or_default t.up x x 0 lx, tied.nest.ups x lx, set_low));
            climb = record {
              ends = λ v lv. (climb_enclosed enclosing).ends v lv ∙ sym (out_new v lv);
              tops = λ v lv. rw (out_new v lv) ((climb_enclosed enclosing).tops v lv);
            };
            led = λ v lv. (let same = get_or-set_other hid.leader b (out v) handle 0 (no_out v lv) in
                grind (arith, hand_in v lv, hand_off v lv, tied.nest.led v lv));
            leaders = λ x lx used. (let new = holds_new enclosing handle handle_at.0 ∙ big_in in
                let was : x ≢ b → (leader x < n) × (climbs up2 n x (leader x) ≡ true) = λ ne. (let w =
                tied.nest.leaders x lx (still_used x ne used) in (w.0, holds_same enclosing x _ ne w.0 ∙ w.1)) in
                grind (arith, leader_b, get_or-set_other hid.leader b x handle 0, handle_at.0));
            members = λ x lx used. elim (cases_eq x b) [
              | inl same ↦ rw (same, first_b, last_b, rank_b)
                  (list_renamed _ new_list (λ v lv. sym (holds_new enclosing v lv)))
              | inr ne ↦ rw (first_old x ne, last_old x ne, rank_old x ne) (list_renamed _ (list_agrees next2
                  (tied.nest.members x lx (still_used x ne used)) (old_next x lx (still_used x ne used)))
                  (λ v lv. sym (holds_same enclosing x v ne lv)))
            ];
            -- A blossom whose last vertex is on the list of the new set is within one of the row's.
            ended = λ x y k lx ly ux uy lk same. elim (cases_eq y b) [
              | inl yb ↦ elim (cases_eq x b) [
                | inl xb ↦ absurd (new_list.distinct k (total - 1) (omega (arith, rw (yb, rank_b) at lk))
                    (omega (arith, new_list.some)) ((rw (yb, xb, first_b, last_b) at same)
                    ∙ sym (new_list.ends (total - 1) (omega (arith, new_list.some)))))
                | inr nx ↦ rw (yb, rank_b, rank_old x nx)
                    (let mine = list_has_last (tied.nest.members x lx (still_used x nx ux)) in
                    let low = rank_passed tied.nest _ x mine.0 mine.1 in
                    let inner = row_rank _ (rw (rw (yb, first_b, last_old x nx) at same) at
                    (list_member new_list k (omega (arith, rw (yb, rank_b) at lk)))) in
                    omega arith)
              ]
              | inr ny ↦ (let few : suc k < rank y = rw (rank_old y ny) at lk in
                  let used = still_used y ny uy in
                  let came = sym (walk_agrees _ next2 _ _ (old_next y ly used) k (omega (arith, few))) in
                  elim (cases_eq x b) [
                    | inl xb ↦ absurd (row_ended (many - 1) y k (omega (arith, ring.two)) ly used few
                        (came ∙ (rw (xb, first_old y ny, last_b) at same)))
                    | inr nx ↦ rw (rank_old x nx, rank_old y ny) (tied.nest.ended x y k lx ly (still_used x nx ux) used
                        few (came ∙ (rw (first_old y ny, last_old x nx) at same)))
                  ])
            ];
            idle = λ x hx none. (let used : inside x ≡ true → IsInUse n t.parts x = λ marked. (let v = in_row x marked
                in subst (IsInUse n t.parts) v.2 (out_used tied.nest v.0 v.1)) in
                grind (arith, ups x, parts_b, ring.two, parts_old x, tied.nest.idle x));
            around = λ x inner. (grind (arith, ups x, high, parts_b, ring.two, parts_old (up_at t.up x), dead));
            rises = λ x inner. (let was = tied.nest.rises x in
                grind (arith, ups x, rank_b, rank_old x, rank_old (up_at t.up x), unused x, b_off, alone, row_rank x));
          }

      abbrev after_ring : ForestTables
      after_ring = record (tables_of h2 l2 r2 s.trail s.weights s.tree s.room) {
        top = set h2.top.items handle2 b;
        root = root2;
      }

      -- The tie after the loops. What the handle of a vertex adds is what some handle added.
      pub tied_after : AreTied after_ring
          (record (hidden_of h2 l2 s.trail pool2) { leader = set l2.leader.items b handle2 })
      tied_after =
          let ranks = ap length joined.rank in
          let firsts = ap length joined.first in
          let lasts = ap length joined.last in
          let heads = ap length enclosed.head in
          let parts = ap length enclosed.parts in
          rw (enclosed.after, enclosed.joint, renamed.off, renamed.top, joined.leader, handle_is) (tied_as renamed.hands
          enclosed.size (omega (arith, tied.sizes, length-set {A = ℕ}, joined.size, renamed.qs)) nest_new (numbers_kept
          tied (ring.weightless b high dead) renamed.hands enclosed.size (holds_same enclosing)
          (λ none. grind (arith, root_is)) (λ v lv. elim (cases_Bool (inside (out v))) [
            | inl marked ↦ rw ((hand_in v lv marked).1, (hand_in v lv marked).0, b_outside, (in_row (out v) marked).4)
                (omega (arith, ints, renamed.q v lv ∙ cond-true _ _ _ marked))
            | inr off ↦ (let q : get_or h2.q.items v (pos 0) ≡ get_or hid.q v (pos 0) =
                renamed.q v lv ∙ cond-false _ _ _ off in
                rw ((hand_off v lv off).1, (hand_off v lv off).0, q))
          ])
          (λ v lv. elim (cases_Bool (inside (out v))) [
            | inl marked ↦ (let hand = hand_in v lv marked in
                (handle, handle_at.0, rw (hand.1, hand.0, b_outside, (in_row _ big_in).4, handle_at.2)))
            | inr off ↦ (v, lv, rw ((hand_off v lv off).1, (hand_off v lv off).0))
          ]))
          (trail_kept tied.trail (search (rules, in_row, hand_off)))
          (rw (enclosed.parts, took.taken) (pool_changed tied.pool took.id high set_low tied.sizes.parts took.is
          took.free (inl (refl, dead)) _ many (inr (took.node, refl, (λ z. absurd (omega arith)))))))

      -- What the forest sees.
      pub seen_after : IsGathered n (forest_of t) (forest_of after_ring) inside front many b
      seen_after =
          let holds : (v : ℕ) → v < n → climbs up2 (length h2.hand.items) b v ≡ inside (out v) =
          λ v lv. ap (λ m. climbs up2 m b v) renamed.hands ∙ holds_new enclosing v lv in
          let held : (x v : ℕ) → x ≢ b → v < n → climbs up2 (length h2.hand.items) x v ≡ climbs (up_at t.up) n x v =
          λ x v ne lv. ap (λ m. climbs up2 m x v) renamed.hands ∙ holds_same enclosing x v ne lv in
          let up : (x : ℕ) → up2 x ≡ set_at (λ y. cond (inside y) b (up_at t.up y)) b b x =
          λ x. grind (arith, ups x, ups b, b_off, alone) in
          let ranked : (x : ℕ) → inside x ≡ true → rank x < get_or l2.rank.items b 0 =
          λ x marked. rw (at_new _ _ joined.rank tied.sizes.rank) (row_rank x marked) in
          let head : (x : ℕ) → get_or r2.head.items x 0 ≡ set_at (λ y. get_or t.head y 0) b front x =
          λ x. rw enclosed.head (ap (λ (f : ℕ → ℕ). f x) (entry_set t.head b front 0 (rw tied.sizes.head set_low))) in
          let parts : (x : ℕ) → get_or r2.parts.items x 0 ≡ set_at (λ y. get_or t.parts y 0) b many x =
          λ x. rw enclosed.parts (ap (λ (f : ℕ → ℕ). f x) (entry_set t.parts b many 0 (rw tied.sizes.parts set_low))) in
          search (rules, set_low, no_out, b_outside, out_new)

      -- The root's blossom is enclosed where it is in the row.
      pub root_after : (x : ℕ) → s.tree.root ≡ Some x → root2 ≡ Some (cond (inside x) b x)
      root_after x is =
          let v = ring.root x is in
          let outside = unused x (λ same. no_out v.0 v.1 (v.2 ∙ same)) in
          let new : cond (eqb (get_or r2.up.items x 0) b) b x ≡ cond (inside x) b x =
          grind (arith, get_or_default r2.up.items x 0 x (rw enclosed.size (outermost_low tied x v)), ups x, outside) in
          cc
