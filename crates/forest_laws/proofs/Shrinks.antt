-- A shrink keeps a forest valid: a cycle of tight darts in its tree becomes one outer blossom.
use Rattle.std.proofs.lemmas.Grind.{common_steps}
use Rattle.std.proofs.Common.{rules, ◌≡◌, ◌≢◌, ℕ, suc, ◌<◌, ◌≤◌, Bool, true, false, cond, eqb, Some, refl, sym}
use Rattle.std.proofs.Common.{◌∙◌, ap, inl, inr, arith}
use Rattle.std.proofs.lemmas.Bool.{cases_Bool, false_from_ne_true, eq-eqb, ne_eqb}
use Rattle.def_forest.specs.Forests.{Forest, IsTight, IsOutermost, bool_number, set_at, walk}
use Rattle.def_forest.specs.{Valid.AreOutermost, Valid.IsInner, Valid.IsJoint, Valid.IsNested, Valid.IsRing}
use Rattle.def_forest.specs.{Valid.IsTree, Valid.IsValid, Darts.Darts, Darts.AreDarts, Darts.far, Shrunk.IsUnused}
use Rattle.def_forest.specs.{Shrunk.IsCycle, Shrunk.IsClosedRow, Shrunk.IsShrunk}
use Rattle.def_forest.specs.{declared.kinds.Label.TheVariants.Outer, declared.kinds.Label.TheVariants.Outside}
use Rattle.forest_laws.proofs.Grows.{set_here, far_low, tree_valid, IsInOrder}
use Rattle.forest_laws.proofs.Shifts.{same_feasible, ChangesOnly, same_joint, same_nested, same_ring, ring_sum_same}
use Rattle.forest_laws.proofs.Shifts.{same_tight as tight_stays}

-- A cycle of a valid forest's tree that becomes one blossom.
pub record Shrink (g : Darts) (f : Forest) (r : ℕ) (new : Forest) (inside : ℕ → Bool) (top b front many : ℕ)
    : Type 0 where
  pub are : AreDarts g
  pub valid : IsValid g f (Some r)
  pub tree : IsTree g f r
  pub cycle : IsCycle g f r tree.depth inside top
  pub unused : IsUnused g.n f b
  pub row : IsClosedRow g f new.nest.after new.nest.joint inside front many
  pub is : IsShrunk g.n f new inside top b front many

module _ {g : Darts} {f : Forest} {r : ℕ} {new : Forest} {inside : ℕ → Bool} {top b front many : ℕ}
    (shrink : Shrink g f r new inside top b front many) where
  open shrink use {are, valid, tree, cycle, unused, row, is}

  -- Each blossom is the new one, on the cycle, or neither.
  pub data Place (x : ℕ) : Type 0 where
    is_new : x ≡ b → Place x
    on_cycle : inside x ≡ true → Place x
    beside : x ≢ b → inside x ≡ false → Place x

  pub place : (x : ℕ) → Place x
  place x = search rules

  marked_old : (x : ℕ) → inside x ≡ true → x ≢ b
  marked_old x on e = cycle.in_tree x on (ap f.label e ∙ unused.outside)

  -- The outermost blossoms of vertices.
  pub out_on : (v : ℕ) → v < g.n → inside (f.out v) ≡ true → new.out v ≡ b
  out_on v low on = rw on at (is.out v low)

  pub out_off : (v : ℕ) → v < g.n → inside (f.out v) ≡ false → new.out v ≡ f.out v
  out_off v low off = rw off at (is.out v low)

  pub label_b : new.label b ≡ Outer
  label_b = is.label b ∙ rw (eq-eqb b b refl)

  pub label_on : (x : ℕ) → inside x ≡ true → new.label x ≡ Outside
  label_on x on = is.label x ∙ rw (ne_eqb x b (marked_old x on), on)

  pub label_off : (x : ℕ) → x ≢ b → inside x ≡ false → new.label x ≡ f.label x
  label_off x ne off = is.label x ∙ rw (ne_eqb x b ne, off)

  pub mate_b : new.mate b ≡ f.mate top
  mate_b = is.mate b ∙ rw (eq-eqb b b refl)

  pub mate_off : (x : ℕ) → x ≢ b → inside x ≡ false → new.mate x ≡ f.mate x
  mate_off x ne off = is.mate x ∙ rw (ne_eqb x b ne, off)

  up_off : (x : ℕ) → x ≢ b → inside x ≡ false → new.nest.up x ≡ f.nest.up x
  up_off x ne off = is.up x ∙ rw (ne_eqb x b ne, off)

  parts_b : new.nest.parts b ≡ many
  parts_b = is.parts b ∙ set_here f.nest.parts b many

  -- What is marked is the outermost blossom of a vertex.
  marked_out : (x : ℕ) → inside x ≡ true → IsOutermost g.n f x
  marked_out x on = valid.outermost.named x (cycle.in_tree x on)

  marked_holds : (x v : ℕ) → v < g.n → inside x ≡ true → new.holds x v ≡ eqb (f.out v) x
  marked_holds x v l on = let w = marked_out x on in
      is.holds_old x v (marked_old x on) l ∙ rw w.2 at (valid.outermost.held w.0 v w.1 l)

  pub changes : ChangesOnly g.n f new b
  changes = search rules

  pub same_tight : {d : ℕ} → IsTight g f d → IsTight g new d
  same_tight = tight_stays are changes

  pub new_outermost : AreOutermost g.n new
  new_outermost = record {
    vertices = rw is.size valid.outermost.vertices;
    out_low = λ v l. grind (arith, is.size, is.out v l, unused.low, valid.outermost.out_low v l);
    held = λ u v lu lv. (let was = valid.outermost.held u v lu lv in
        let none = unused.no_out v lv in
        grind (arith, is.out u lu, is.out v lv, is.holds_new v lv, is.holds_old (f.out u) v, unused.no_out u lu));
    tops = λ v l. grind (arith, is.out v l, is.up b, is.up (f.out v), unused.no_out v l, valid.outermost.tops v l);
    together = λ x u v lu lv hu hv. (let new_u = is.holds_new u lu in let new_v = is.holds_new v lv in
        grind (arith, is.out u lu, is.out v lv, is.holds_old x));
    named = λ x n. (let w = marked_out top cycle.top_in in let old = valid.outermost.named x in
        search (rules, place x, out_on, out_off, label_on, label_off, cycle.top_in));
  }

  -- The ring of another set, and the new ring.
  ring_old : {c : ℕ} → c ≢ b → IsRing g f c → IsRing g new c
  ring_old {c} ne ring = same_ring are changes ne ring
      (λ p up inner. (let off = false_from_ne_true (inside p) (λ on. (search (rules, marked_out p on))) in
      search (rules, up_off, is.after))) (search (rules, up_off))

  ring_new : IsRing g new b
  ring_new = let head_b = is.head b ∙ set_here f.nest.head b front in record {
    half = row.half;
    some = row.some;
    odd = parts_b ∙ row.odd;
    closed = rw (parts_b, head_b) row.closed;
    inside = λ k. rw head_b (grind (arith, is.up (at k), row.marked k));
    lower = λ k. rw (head_b, is.rank _ (marked_old (at k) (row.marked k))) (is.ranked _ (row.marked k));
    below = λ k. (search (rules, marked_out (at k) (row.marked k)));
    distinct = λ i j l h. rw head_b (row.distinct i j l (rw parts_b at h));
    all = λ p up inner. grind (arith, row.all p, unused.around_none p);
    shared = λ v l. rw (is.holds_new v l, parts_b, head_b) (row.shared v l ∙ ring_sum_same new.nest.after
        new.nest.after (λ p. bool_number (eqb (f.out v) p)) (λ p. bool_number (new.holds p v)) front front many
        (λ k. refl) (λ k. ap bool_number (sym (marked_holds (at k) v l (row.marked k)))));
  }
    where
      at : ℕ → ℕ
      at k = walk new.nest.after front k

  joint_new : (p : ℕ) → inside p ≡ true → IsJoint g new p
  joint_new p on =
      let joint = new.nest.joint p in
      let tight = row.tight p on in
      let near_low = are.near_low joint tight.low in
      let w = row.all p on in
      let next : inside (new.nest.after p) ≡ true = rw (← w.2) (row.marked (suc w.0)) in
      let begins = row.begins p on in let ends = row.ends p on in
      search (rules, same_tight, marked_holds, out_on)

  joint_old : (p : ℕ) → p ≢ b → inside p ≡ false → f.nest.up p ≢ p → IsJoint g new p
  joint_old p ne off inner =
      let old = valid.nested.joints p inner in
      let joint = f.nest.joint p in
      let far_is_low = far_low g are _ old.tight.low in
      same_joint are changes ne (search rules) (is.after p off) (is.joint p off)
      (rw (is.out (g.near joint) (are.near_low joint old.tight.low), is.out (far g _) far_is_low, old.same) refl) old

  pub new_nested : IsNested g new
  new_nested = same_nested are changes valid.nested (λ some. ring_new) (λ v l none. absurd (some_parts none))
      (λ c ne. ring_old ne) (λ p inner. search (rules, is.parts (f.nest.up p), is.up p))
      (λ p inner. search (rules, place p, is.up, up_off, joint_new, joint_old))
    where
      some_parts : new.nest.parts b ≢ 0
      some_parts none = absurd (omega (arith, sym parts_b ∙ none, row.odd))

  -- Who is matched to a blossom of the cycle from outside it is matched to the top.
  pub only_top : (c d : ℕ) → inside c ≡ false → f.mate c ≡ Some d → inside (f.out (far g d)) ≡ true
      → f.out (far g d) ≡ top
  only_top c d off mate on = let pair = valid.matched c d mate in search rules

  -- Where a dart begins beside the cycle, and where it leads.
  pub near_off : {c d : ℕ} → IsTight g f d → f.out (g.near d) ≡ c → inside c ≡ false → new.out (g.near d) ≡ c
  near_off {c} {d} tight here off = out_off (g.near d) (are.near_low d tight.low) (ap inside here ∙ off) ∙ here

  module _ {d : ℕ} (tight : IsTight g f d) where
    pub beyond_on : inside (f.out (far g d)) ≡ true → new.out (far g d) ≡ b
    beyond_on = out_on (far g d) (far_low g are d tight.low)

    pub beyond_off : inside (f.out (far g d)) ≡ false → new.out (far g d) ≡ f.out (far g d)
    beyond_off = out_off (far g d) (far_low g are d tight.low)

    pub beyond_label : inside (f.out (far g d)) ≡ false → new.label (new.out (far g d)) ≡ f.label (f.out (far g d))
    beyond_label off = ap new.label (beyond_off off) ∙ label_off _ (unused.no_out _ (far_low g are d tight.low)) off

    beyond_mate : inside (f.out (far g d)) ≡ false → new.mate (new.out (far g d)) ≡ f.mate (f.out (far g d))
    beyond_mate off = ap new.mate (beyond_off off) ∙ mate_off _ (unused.no_out _ (far_low g are d tight.low)) off

  -- The tree: the new blossom is as deep as the top was.
  abbrev depths : ℕ → ℕ
  depths = set_at tree.depth b (tree.depth top)

  -- Where a dart leads to an outer blossom, it leads to an outer one that is no deeper.
  outer_after : {d : ℕ} → IsTight g f d → f.label (f.out (far g d)) ≡ Outer → (new.label (new.out (far g d)) ≡ Outer)
      × (depths (new.out (far g d)) ≤ tree.depth (f.out (far g d)))
  outer_after {d} tight outer = search (rules, beyond_on, beyond_label, beyond_off)

  new_inner : {c : ℕ} → c ≢ b → inside c ≡ false → IsInner g f tree.depth c → IsInner g new depths c
  new_inner {c} ne off old =
      let parent = outer_after old.tight old.above in
      let down = (valid.matched c old.dart old.mate).tight in
      let link = is.link c in let tight = same_tight old.tight in let here = near_off old.tight old.here off in
      let child = outer_after down old.child in
      let same : depths (new.out (far g old.dart)) ≡ depths c = search (rules, only_top, beyond_on, beyond_off) in
      search rules

  -- The new blossom, and one beside the cycle.
  order_new : IsInOrder g new (cond (inside r) b r) depths b
  order_new = record {
    matched = λ d mate. (let was = sym mate_b ∙ mate in
        let pair = valid.matched top d was in
        let off = cycle.top_mate d was in
        let tight = same_tight pair.tight in
        search (rules, beyond_mate));
    inner = λ l. absurd (cc label_b);
    outer = λ l. elim (tree.outer top cycle.top_outer) [
      | inl at ↦ inl (rw (ap inside (sym at) ∙ cycle.top_in) refl)
      | inr w ↦ (let tight = (valid.matched top w.0 w.1).tight in
          inr (w.0, mate_b ∙ w.1, beyond_label tight (cycle.top_mate w.0 w.1) ∙ w.2))
    ];
    outside = λ d l. absurd (cc label_b);
  }

  order_old : (c : ℕ) → c ≢ b → inside c ≡ false → IsInOrder g new (cond (inside r) b r) depths c
  order_old c ne off = let label = label_off c ne off in let mated = mate_off c ne off in record {
    matched = λ d mate. (let was = sym mated ∙ mate in
        let pair = valid.matched c d was in
        let tight = same_tight pair.tight in let on = beyond_on pair.tight in let partner = beyond_mate pair.tight in
        let top_is = only_top c d off was in grind (arith, cases_Bool (inside (f.out (far g d))), mate_b));
    inner = λ l. new_inner ne off (tree.inner c (sym label ∙ l));
    outer = λ l. elim (tree.outer c (sym label ∙ l)) [
      | inl at ↦ inl (rw (ap inside (sym at) ∙ off) at)
      | inr w ↦ (let label = beyond_label (valid.matched c w.0 w.1).tight in
          -- The mate of an outer blossom beside the cycle is inner, so not the top.
          let too = only_top c w.0 off w.1 in
          inr (w.0, mated ∙ w.1, grind (arith, cases_Bool (inside (f.out (far g w.0))), cycle.top_outer)))
    ];
    outside = λ d l mate. (let pair = valid.matched c d (sym mated ∙ mate) in
        search (rules, beyond_label pair.tight, valid.outside c d, cycle.in_tree (f.out (far g d))));
  }

  in_order : (c : ℕ) → IsInOrder g new (cond (inside r) b r) depths c
  in_order c = elim (place c) [
    | is_new e ↦ rw e order_new
    | on_cycle on ↦ grind (arith, common_steps, label_on c on, is.mate c)
    | beside ne off ↦ order_old c ne off
  ]

  -- A cycle of tight darts in the tree may become one outer blossom.
  pub shrunk_valid : IsValid g new (Some (cond (inside r) b r))
  shrunk_valid =
      let r_old : r ≢ b = λ e. cc (tree.root_outer, unused.outside) in
      tree_valid depths new_outermost new_nested (same_feasible are changes valid.feasible) (search rules)
      (grind (arith, cases_Bool (inside r), mate_b, cycle.root_top, mate_off r r_old, tree.root_free)) in_order
