-- Parting a set into the blossoms of its ring: climbing once the ring is open, what the loops need, and the tie and the
-- forest after all of them.
use Rattle.std.proofs.Common.{rules, ◌≡◌, ◌≢◌, ℕ, zero, suc, ◌+◌, ◌-◌, ◌<◌, ◌≤◌, Bool, true, false, cond, List, length}
use Rattle.std.proofs.Common.{get_or, ℤ, pos, Option, Some, None, ◌⊎◌, refl, sym, ◌∙◌, ap, inl, inr, arith, length-set}
use Rattle.std.proofs.{Common.get_or-set_same, Common.get_or-set_other, Math.ListN.set, lemmas.List.get_or_default}
use Rattle.std.proofs.lemmas.Bool.{cases_eq, cases_Bool, false_from_ne_true}
use Rattle.def_forest.specs.Tables.{ForestTables, forest_of, climbs, label_at, out_of, up_at}
use Rattle.def_forest.specs.{Forests.Forest, Forests.walk, declared.kinds.Label.TheVariants.Outside}
use Rattle.forest_laws.proofs.Walks.{listed_at, listed_off, listed_place, writes_at, writes_off}
use Rattle.qm_forest.specs.Parts.{AreOpened, HasHandedRow, HasPartLists, IsPartable, IsParted}
use Rattle.qm_forest.specs.{Ties.IsPooled, Ties.IsTrailed, Gathers.lists_at, declared.tables.Handles.Handles}
use Rattle.qm_forest.specs.{declared.tables.Rings.Rings, declared.forest.Forest.TheInside.Inside}
use Rattle.qm_forest.specs.Ties.{AreTied, HiddenTables, HasSizes, HasNumbers, IsClimb, IsInUse, IsLaidOut, IsListed}
use Rattle.qm_forest.proofs.Enclosed.{Enclosing, climb_enclosed, holds_same, not_new, came_past, climbs_place}
use Rattle.qm_forest.proofs.Enclosed.{leader_out, rank_few, rank_some}
use Rattle.qm_forest.proofs.{Gatherings.list_read, Shrinkings.seen_in, Shrinkings.hidden_in, Waitings.pool_changed}
use Rattle.qm_forest.proofs.TiedWrites.{numbers_kept, tied_as, trail_kept, entry_set}
use Rattle.qm_forest.proofs.JoinedLists.{writes_has, writes_self, list_renamed}
use Rattle.qm_forest.proofs.Fresh.{comes_out, fixed_top, rank_low}
use Rattle.{forest_laws.specs.Walks.listed, std.specs.Prelude.slice_get, qm_pool.specs.declared.pool.Node.Node}
use Rattle.{forest_laws.proofs.Grows.label_cases, forest_laws.proofs.Grows.true_false}

-- A set of weight 0 outside the tree whose ring has been opened.
pub record Opened (s : Inside) (r2 : Rings) (b : ℕ) : Type 0 where
  pub tied : AreTied (seen_in s) (hidden_in s)
  pub ready : IsPartable (seen_in s) b
  pub opened : AreOpened s.rings r2 (get_or s.rings.head.items b 0) (get_or s.rings.parts.items b 0) b

module _ {s : Inside} {r2 : Rings} {b : ℕ} (it : Opened s r2 b) where
  open it use {tied, ready, opened}

  abbrev t : ForestTables
  t = seen_in s

  abbrev hid : HiddenTables
  hid = hidden_in s

  abbrev n : ℕ
  n = length t.hand

  abbrev many : ℕ
  many = get_or t.parts b 0

  abbrev at : ℕ → ℕ
  at k = walk (λ i. get_or t.after i 0) (get_or t.head b 0) k

  abbrev inside : ℕ → Bool
  inside = listed (λ i. get_or t.after i 0) (get_or t.head b 0) many

  abbrev out : ℕ → ℕ
  out = out_of t.hand t.top

  abbrev rank : ℕ → ℕ
  rank x = get_or t.rank x 0

  abbrev up2 : ℕ → ℕ
  up2 = up_at r2.up.items

  abbrev fresh : ℕ → ℕ
  fresh v = walk up2 v n

  ups : (x : ℕ) → up2 x ≡ cond (inside x) x (up_at t.up x)
  ups x = ap (λ (f : ℕ → ℕ). f x) opened.up ∙ writes_self _ (λ i. get_or t.after i 0) _ many x

  up_in : (x : ℕ) → inside x ≡ true → up2 x ≡ x
  up_in x on = rw (ups x, on)

  up_off : (x : ℕ) → inside x ≡ false → up2 x ≡ up_at t.up x
  up_off x off = rw (ups x, off)

  in_around : (x : ℕ) → inside x ≡ true → up_at t.up x ≡ b
  in_around x on = let w : (k : ℕ) × (k < many) × (at k ≡ x) = listed_place _ _ many x on in
      ap (up_at t.up) (sym w.2) ∙ ready.around w.0 w.1

  at_in : (k : ℕ) → k < many → inside (at k) ≡ true
  at_in k l = listed_at _ _ many k l

  b_off : inside b ≡ false
  b_off = listed_off _ _ many b ready.other

  around_in : (x : ℕ) → up_at t.up x ≡ b → x ≢ b → inside x ≡ true
  around_in x e ne = let w = ready.all x e ne in ap inside (sym w.2) ∙ at_in w.0 w.1

  b_top : up_at t.up b ≡ b
  b_top = ap (up_at t.up) (sym ready.top.2) ∙ (tied.nest.climb.tops _ ready.top.1 ∙ ready.top.2)

  alone : up2 b ≡ b
  alone = up_off b b_off ∙ b_top

  unused : (x : ℕ) → x ≢ b → up2 x ≢ b
  unused x ne e = grind (arith, ups x, around_in x)

  rises : (x : ℕ) → up2 x ≢ x → rank x < rank (up2 x)
  rises x inner = grind (arith, ups x, tied.nest.rises x)

  -- Where one comes to one came before.
  on_way : (v i : ℕ) → (j : ℕ) × (walk (up_at t.up) v j ≡ walk up2 v i)
  on_way v zero = (0, refl)
  on_way v (suc i) =
      let w = on_way v i in
      elim (cases_Bool (inside (walk up2 v i))) [
        | inl on ↦ (w.0, w.1 ∙ sym (up_in _ on))
        | inr off ↦ (suc w.0, ap (up_at t.up) w.1 ∙ sym (up_off _ off))
      ]

  few : (v i : ℕ) → v < n → rank (walk up2 v i) ≤ n
  few v i l =
      let low = rank_low rank tied.nest.climb tied.nest.rises v _ l (on_way v i) in
      omega (arith, rank_few tied.nest v l)

  -- Each step rises, or one has come to stay.
  stays_or : (v i : ℕ) → v < n → (up2 (walk up2 v i) ≡ walk up2 v i) ⊎ (i < rank (walk up2 v i))
  stays_or v zero l = inr (rank_some tied.nest v l tied.sizes.vertices)
  stays_or v (suc i) l =
      let before = stays_or v i l in
      grind (arith, cases_eq (up2 (walk up2 v i)) (walk up2 v i), rises (walk up2 v i))

  climb_parted : IsClimb n up2 (λ v. walk up2 v n)
  climb_parted = search (rules, stays_or, few)

  -- The set was around its parts.
  enclosing : Enclosing n up2 (λ v. walk up2 v n) rank (up_at t.up) inside b
  enclosing = grind (arith, climb_parted, rises, rank_some tied.nest, few, up_in, b_off, alone, unused, ups, in_around)

  holds_old : (x v : ℕ) → x ≢ b → v < n → climbs up2 n x v ≡ climbs (up_at t.up) n x v
  holds_old x v ne l = sym (holds_same enclosing x v ne l)

  -- The parts of the set are where its vertices are now.
  out_is : (v : ℕ) → v < n → out v ≡ cond (inside (fresh v)) b (fresh v)
  out_is v l = sym (tied.nest.climb.ends v l) ∙ (climb_enclosed enclosing).ends v l

  never : (v i : ℕ) → v < n → walk up2 v i ≢ b
  never = not_new enclosing

  holds_none : (v : ℕ) → v < n → climbs up2 n b v ≡ false
  holds_none v l = false_from_ne_true _ (λ on. (let w = climbs_place _ n b v on in never v w.0 l w.1))

  -- A vertex of a part is in it.
  part_fresh : (k v : ℕ) → k < many → v < n → climbs (up_at t.up) n (at k) v ≡ true → fresh v ≡ at k
  part_fresh k v lk l on = sym (fixed_top rank climb_parted rises v l
      (climbs_place _ n (at k) v (holds_old (at k) v (ready.other k lk) l ∙ on)) (up_in (at k) (at_in k lk)))

  -- The vertices of any other blossom lie in one part.
  fresh_together : (x u v : ℕ) → u < n → v < n → x ≢ b → climbs (up_at t.up) n x u ≡ true
      → climbs (up_at t.up) n x v ≡ true → fresh u ≡ fresh v
  fresh_together x u v lu lv ne hu hv = sym (at_x u lu hu) ∙ at_x v lv hv
    where
      at_x : (w : ℕ) → w < n → climbs (up_at t.up) n x w ≡ true → walk up2 x n ≡ fresh w
      at_x w lw hw = comes_out rank climb_parted rises w x lw (climbs_place _ n x w (holds_old x w ne lw ∙ hw))

  out_in : (v : ℕ) → v < n → inside (fresh v) ≡ true → out v ≡ b
  out_in v l on = rw (out_is v l, on)

  out_off : (v : ℕ) → v < n → inside (fresh v) ≡ false → out v ≡ fresh v
  out_off v l off = rw (out_is v l, off)

  part_outside : (x : ℕ) → inside x ≡ true → label_at t.label x ≡ Outside
  part_outside x on = elim (label_cases _) [ inl e ↦ e | inr named ↦ (search (rules, in_around)) ]

  -- The leaders of the parts are different vertices of them.
  leader_in : (k : ℕ) → k < many → (get_or hid.leader (at k) 0 < n)
      × (climbs (up_at t.up) n (at k) (get_or hid.leader (at k) 0) ≡ true)
  leader_in k l = tied.nest.leaders (at k) (ready.row.low k l)
      (grind (arith, tied.nest.idle (at k), ready.other k l, ready.around k l))

  leader_fresh : (k : ℕ) → k < many → fresh (get_or hid.leader (at k) 0) ≡ at k
  leader_fresh k l = part_fresh k _ l (leader_in k l).0 (leader_in k l).1

  leaders_differ : (i j : ℕ) → i < j → j < many → get_or hid.leader (at i) 0 ≢ get_or hid.leader (at j) 0
  leaders_differ i j lij lj e = ready.row.distinct i j lij lj
      (sym (leader_fresh i (omega arith)) ∙ (ap fresh e ∙ leader_fresh j lj))

  pub set_live : (id : ℕ) × (b ≡ n + id) × (node : Node) × (slice_get s.pool id ≡ Some (Some node))
  set_live = let is : b ≡ n + (b - n) = omega arith in search rules

  list_at : (k : ℕ) → k < many → IsListed n (λ i. get_or s.lists.following.items i 0)
      (get_or s.lists.first.items (at k) 0) (get_or s.lists.last.items (at k) 0) (get_or s.lists.rank.items (at k) 0)
      (climbs (up_at s.rings.up.items) n (at k))
  list_at k lk = tied.nest.members (at k) (ready.row.low k lk)
      (grind (arith, tied.nest.idle (at k), ready.other k lk, ready.around k lk))

  on_list : (k v : ℕ) → k < many → lists_at s.lists (at k) v ≡ true
      → (v < n) × (climbs (up_at s.rings.up.items) n (at k) v ≡ true)
  on_list k v lk on =
      let p : (j : ℕ) × (j < get_or s.lists.rank.items (at k) 0) × (walk (λ i. get_or s.lists.following.items i 0)
      (get_or s.lists.first.items (at k) 0) j ≡ v) = listed_place _ _ _ v on in
      let lv : v < n = rw p.2 at ((list_at k lk).low p.0 p.1) in
      (lv, sym ((list_at k lk).all v lv) ∙ on)

  fresh_at : (k v : ℕ) → k < many → lists_at s.lists (at k) v ≡ true → fresh v ≡ at k
  fresh_at k v lk on = part_fresh k v lk (on_list k v lk on).0 (on_list k v lk on).1

  apart : (i j v : ℕ) → i < many → j < many → lists_at s.lists (at i) v ≡ true → lists_at s.lists (at j) v ≡ true
      → i ≡ j
  apart i j v li lj oi oj =
      let same : at i ≡ at j = sym (fresh_at i v li oi) ∙ fresh_at j v lj oj in
      grind (arith, ready.row.distinct i j, ready.row.distinct j i)

  led : (k v : ℕ) → k < many → lists_at s.lists (at k) v ≡ true
      → get_or s.handles.hand.items v 0 ≡ get_or s.lists.leader.items b 0
  led k v lk on = let w = on_list k v lk on in
      cc (tied.nest.led v w.0, out_in v w.0 (ap inside (fresh_at k v lk on) ∙ at_in k lk))

  pub part_lists : HasPartLists s.handles s.lists r2.after.items (get_or t.head b 0) many b
  part_lists = rw opened.after (record {
    row = rw tied.sizes.after ready.row;
    each = λ k lk. list_read s tied (ready.row.low k lk) (list_at k lk);
    apart = apart;
    leader = tied.sizes.leader ∙ sym tied.sizes.after;
    set_low = rw tied.sizes.after ready.low;
    offs = tied.sizes.off;
    tops = λ k lk. rw tied.sizes.top (leader_in k lk).0;
    set_top = rw tied.sizes.top (tied.nest.leaders b ready.low (inr ready.live)).0;
    led = led;
  })

  -- The set's vertices are handed over to its parts, and its number is given back.
  module _ {h2 : Handles} {pool2 : List (Option Node)}
      (laid : HasHandedRow s.handles h2 s.lists r2.after.items (get_or t.head b 0) many b)
      (gave : (id : ℕ) × (b ≡ n + id) × (pool2 ≡ set s.pool id None)) where
    handed : HasHandedRow s.handles h2 s.lists t.after (get_or t.head b 0) many b
    handed = rw opened.after at laid

    abbrev out2 : ℕ → ℕ
    out2 = out_of h2.hand.items h2.top.items

    abbrev leader : ℕ → ℕ
    leader k = get_or hid.leader (at k) 0

    -- A vertex lies in a part, whose leader is its handle now; or it lies where it lay, and has the handle that it had.
    data Spot (v : ℕ) : Type 0 where
      in_part : (k : ℕ) → k < many → at k ≡ fresh v → out v ≡ b → get_or h2.hand.items v 0 ≡ leader k → Spot v
      beside : out v ≡ fresh v → get_or h2.hand.items v 0 ≡ get_or t.hand v 0 → Spot v

    spot : (v : ℕ) → v < n → Spot v
    spot v lv = elim (cases_Bool (inside (fresh v))) [
      | inl on ↦ (let p : (k : ℕ) × (k < many) × (at k ≡ fresh v) = listed_place _ _ many _ on in
          let was = holds_old (at p.0) v (ready.other p.0 p.1) lv in
          let past = came_past _ n v (at p.0) (sym p.2) in
          in_part p.0 p.1 p.2 (out_in v lv on) (handed.own p.0 v p.1 ((list_at p.0 p.1).all v lv ∙ (sym was ∙ past))))
      | inr off ↦ beside (out_off v lv off) (handed.other v (λ k lk. (list_at k lk).all v lv
          ∙ false_from_ne_true _ (λ on. true_false (ap inside (part_fresh k v lk lv on) ∙ at_in k lk) off)))
    ]

    -- The handle of a vertex outside the set is no part's.
    hand_apart : (v k : ℕ) → v < n → out v ≡ fresh v → k < many → leader k ≢ get_or t.hand v 0
    hand_apart v k lv top lk same =
        let in_b = out_in (leader k) (leader_in k lk).0 (ap inside (leader_fresh k lk) ∙ at_in k lk) in
        never v n lv (sym top ∙ (sym (leader_out tied.nest v lv) ∙ (ap out (sym (same ∙ tied.nest.led v lv)) ∙ in_b)))

    out_new : (v : ℕ) → v < n → out2 v ≡ fresh v
    out_new v lv = elim (spot v lv) [
      | in_part k lk at_k in_b hand ↦ rw (hand, ap (λ (f : ℕ → ℕ). f (leader k)) handed.top)
          (writes_at _ leader at many k lk leaders_differ ∙ at_k)
      | beside top hand ↦ rw (hand, ap (λ (f : ℕ → ℕ). f (get_or t.hand v 0)) handed.top)
          (writes_off _ leader at many _ (λ k lk. hand_apart v k lv top lk) ∙ top)
    ]

    -- What the handle of a vertex adds stays.
    off_new : (v : ℕ) → v < n → get_or h2.off.items (get_or h2.hand.items v 0) (pos 0)
        ≡ get_or hid.off (get_or t.hand v 0) (pos 0)
    off_new v lv = elim (spot v lv) [
      | in_part k lk at_k in_b hand ↦ rw (hand, ap (λ (f : ℕ → ℤ). f (leader k)) handed.off)
          (writes_at _ leader _ many k lk leaders_differ ∙ ap (λ i. get_or hid.off i (pos 0)) (search rules))
      | beside top hand ↦ rw (hand, ap (λ (f : ℕ → ℤ). f (get_or t.hand v 0)) handed.off)
          (writes_off _ leader _ many _ (λ k lk. hand_apart v k lv top lk))
    ]

    label_new : (v : ℕ) → v < n → label_at t.label (out2 v) ≡ label_at t.label (out v)
    label_new v lv = grind (arith, out_new v lv, out_is v lv, part_outside (fresh v), ready.outside)

    numbers_new : HasNumbers h2.hand.items h2.top.items r2.up.items t.base t.label t.delta t.root h2.q.items
        h2.off.items
    numbers_new = numbers_kept tied ready.weightless handed.hands opened.size holds_old (λ none. none)
        (λ v lv. rw (handed.q v, off_new v lv, label_new v lv)) (λ v lv. (v, lv, rw (off_new v lv, label_new v lv)))

    set_low : b < length t.parts
    set_low = rw tied.sizes.parts ready.low

    parts_b : get_or r2.parts.items b 0 ≡ 0
    parts_b = ap (λ xs. get_or xs b 0) opened.parts ∙ get_or-set_same t.parts b 0 0 set_low

    parts_old : (x : ℕ) → x ≢ b → get_or r2.parts.items x 0 ≡ get_or t.parts x 0
    parts_old x ne = ap (λ xs. get_or xs x 0) opened.parts ∙ get_or-set_other t.parts b x 0 0 ne

    -- What is in use was, and is not the set.
    used_old : (x : ℕ) → IsInUse n r2.parts.items x → IsInUse n t.parts x × (x ≢ b)
    used_old x used = grind (arith, parts_b, parts_old x)

    nest_new : IsLaidOut n (length t.up) h2.hand.items h2.top.items r2.up.items t.rank r2.parts.items hid.leader
        hid.first hid.last hid.following
    nest_new = record {
      hands = λ v lv. rw handed.tops (elim (spot v lv) [
        | in_part k lk at_k in_b hand ↦ rw (hand, tied.sizes.top) (leader_in k lk).0
        | beside top hand ↦ rw hand (tied.nest.hands v lv)
      ]);
      outs = λ k lk. rw (ap (λ (f : ℕ → ℕ). f k) handed.top) (writes_has (λ x. x < length t.up) _ leader at many k
          ready.row.low (tied.nest.outs k (rw handed.tops at lk)));
      ups = λ x lx. rw (get_or_default r2.up.items x 0 x (rw opened.size lx))
          (grind (arith, ups x, get_or_default t.up x x 0 lx, tied.nest.ups x lx));
      climb = record { ends = λ v lv. sym (out_new v lv); tops = λ v lv. rw (out_new v lv) (climb_parted.tops v lv) };
      led = λ v lv. elim (spot v lv) [
        | in_part k lk at_k in_b hand ↦ search (rules, out_new)
        | beside top hand ↦ hand ∙ (tied.nest.led v lv ∙ ap (λ x. get_or hid.leader x 0) (top ∙ sym (out_new v lv)))
      ];
      leaders = λ x lx used. (let was = tied.nest.leaders x lx (used_old x used).0 in
          (was.0, holds_old x (get_or hid.leader x 0) (used_old x used).1 was.0 ∙ was.1));
      members = λ x lx used. list_renamed _ (tied.nest.members x lx (used_old x used).0)
          (λ v lv. sym (holds_old x v (used_old x used).1 lv));
      ended = λ x y k lx ly ux uy lk. tied.nest.ended x y k lx ly (used_old x ux).0 (used_old y uy).0 lk;
      idle = λ x hx none. grind (arith, alone, ups x, parts_old x, tied.nest.idle x hx);
      around = λ x inner. grind (arith, alone, ups x, unused x, parts_old (up2 x), tied.nest.around x);
      rises = rises;
    }

    trail_new : IsTrailed n h2.hand.items h2.top.items t.label t.trail hid.touched
    trail_new = trail_kept tied.trail (λ v lv named. grind (arith, out_new v lv, out_is v lv, ready.outside))

    abbrev parted : ForestTables
    parted = record t { hand = h2.hand.items; top = h2.top.items; up = r2.up.items; parts = r2.parts.items }

    abbrev parted_hidden : HiddenTables
    parted_hidden = record hid { q = h2.q.items; off = h2.off.items; pool = pool2 }

    sizes_new : HasSizes parted parted_hidden
    sizes_new = let parts = length-set t.parts b 0 in omega (arith, ap length opened.parts)

    pool_new : IsPooled n (length t.up) r2.parts.items pool2
    pool_new =
        let live : (node : Node) × (slice_get s.pool gave.0 ≡ Some (Some node)) =
        tied.pool.live gave.0 (λ none. ready.live (ap (λ x. get_or t.parts x 0) gave.1 ∙ none)) in
        rw (opened.parts, gave.2) (pool_changed tied.pool gave.0 ready.high ready.low tied.sizes.parts
        gave.1 live.1 (inr (live.0, refl, ready.live)) None 0 (inl (refl, refl)))

    abbrev pub after_parting : Inside
    after_parting = record s { handles = h2; rings = r2; pool = pool2 }

    -- The tie after a set was parted.
    pub tied_parted : AreTied (seen_in after_parting) (hidden_in after_parting)
    tied_parted = rw (opened.after, opened.joint, opened.head) (tied_as {t = parted} {hid = parted_hidden} handed.hands
        opened.size sizes_new nest_new numbers_new trail_new pool_new)

    -- What the forest sees.
    pub parted_is : IsParted n (forest_of t) (forest_of (seen_in after_parting)) inside b
    parted_is =
        let own : (x v : ℕ) → inside x ≡ true → v < n → climbs (up_at t.up) n x v ≡ true → out2 v ≡ x =
        search (rules, listed_place, out_new, part_fresh) in
        rw (opened.after, opened.joint, opened.head) (assumption (
          (λ (x v : ℕ) (ne : x ≢ b) (lv : v < n). ap (λ m. climbs up2 m x v) handed.hands ∙ holds_old x v ne lv),
          (λ (v : ℕ) (lv : v < n). ap (λ m. climbs up2 m b v) handed.hands ∙ holds_none v lv),
          (λ (v : ℕ) (lv : v < n). out_is v lv ∙ ap (λ x. cond (inside x) b x) (sym (out_new v lv))),
          (λ (v : ℕ) (lv : v < n). ap (λ x. climbs (up_at t.up) n x v) (out_new v lv)
              ∙ (sym (holds_old (fresh v) v (never v n lv) lv) ∙ came_past up2 n v (fresh v) refl)),
          (λ (v : ℕ) (lv : v < n) (at_b : out2 v ≡ b). never v n lv (sym (out_new v lv) ∙ at_b)),
          (λ (x u v : ℕ) (lu : u < n) (lv : v < n) (ne : x ≢ b) (hu : climbs (up_at t.up) n x u ≡ true)
              (hv : climbs (up_at t.up) n x v ≡ true). out_new u lu ∙ (fresh_together x u v lu lv ne hu hv
              ∙ sym (out_new v lv))),
          ups,
          (λ (x : ℕ). ap (λ (f : ℕ → ℕ). f x) (ap (λ xs y. get_or xs y 0) opened.parts
              ∙ entry_set t.parts b 0 0 set_low)),
        ))

-- What the forest sees, said of the tables as contracts see them.
pub parted_as : {t u : ForestTables} {new : Forest} {b : ℕ} → t ≡ u → IsParted (length t.hand) (forest_of t) new
    (listed (λ i. get_or t.after i 0) (get_or t.head b 0) (get_or t.parts b 0)) b → IsParted (length u.hand)
    (forest_of u) new (listed (λ i. get_or u.after i 0) (get_or u.head b 0) (get_or u.parts b 0)) b
parted_as e is = rw e at is
