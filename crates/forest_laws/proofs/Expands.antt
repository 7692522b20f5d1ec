-- An expansion keeps a forest valid: an inner set of weight 0 is opened.
use Rattle.std.proofs.Common.{◌≡◌, ◌≢◌, ℕ, zero, suc, ◌+◌, ◌*◌, ◌-◌, ◌/◌, ◌%◌, ◌<◌, ◌≤◌, true, cond, eqb, Some}
use Rattle.std.proofs.Common.{◌⊎◌, refl, sym, ◌∙◌, ap, inl, inr, arith, rules}
use Rattle.std.proofs.lemmas.Bool.{cases_eq, cases_lt, cond-true, cond-false, eq-eqb, ne_eqb}
use Rattle.{std.proofs.Math.Nat.mul-le-mul_left, def_math.specs.Searches.least, qm_dual.proofs.Gathered.least_some}
use Rattle.def_forest.specs.Forests.{Forest, IsTight, IsOutermost, walk, ring_sum}
use Rattle.def_forest.specs.{Valid.AreOutermost, Valid.IsInner, Valid.IsJoint, Valid.IsMate, Valid.IsNested}
use Rattle.def_forest.specs.{Valid.IsRing, Valid.IsTree, Valid.IsValid, Darts.Darts, Darts.AreDarts, Darts.far}
use Rattle.def_forest.specs.{Ways.dart_or, Opened.Opening, Opened.IsOpening, Opened.IsOpened}
use Rattle.def_forest.specs.declared.kinds.Label.TheVariants.{Outer}
use Rattle.forest_laws.proofs.Shifts.{ChangesOnly, same_feasible, same_joint, same_nested, same_ring}
use Rattle.forest_laws.proofs.Shifts.{same_tight as tight_stays}
use Rattle.forest_laws.proofs.Grows.{far_low, far_twin, tight_twin, tree_valid, IsInOrder}

-- A number is even or odd.
pub halves : (j : ℕ) → ((i : ℕ) × (j ≡ 2 * i)) ⊎ ((i : ℕ) × (j ≡ 2 * i + 1))
halves j = elim (cases_eq (j % 2) 0) [ inl e ↦ inl (j / 2, omega arith) | inr ne ↦ inr (j / 2, omega arith) ]

-- A term of a sum along a ring.
pub ring_term : (next f : ℕ → ℕ) (front n k : ℕ) → k < n → f (walk next front k) ≤ ring_sum next f front n
ring_term next f front zero k l = absurd (omega arith)
ring_term next f front (suc n) k l = grind (arith, ring_term next f front n k)

-- A set holds what its parts hold.
pub holds_up : {g : Darts} {f : Forest} → IsNested g f → (p v : ℕ) → v < g.n → f.nest.up p ≢ p → f.holds p v ≡ true
    → f.holds (f.nest.up p) v ≡ true
holds_up {g} {f} nested p v l inner on = search (rules, ring_term)

-- A set b that is opened in a valid forest with a tree.
pub record Expansion (g : Darts) (f : Forest) (r : ℕ) (new : Forest) (o : Opening) : Type 0 where
  pub are : AreDarts g
  pub valid : IsValid g f (Some r)
  pub tree : IsTree g f r
  pub opening : IsOpening g f o
  pub is : IsOpened g f new o

module _ {g : Darts} {f : Forest} {r : ℕ} {new : Forest} {o : Opening} (opened : Expansion g f r new o) where
  open opened use {are, valid, tree, opening, is}

  abbrev pub b : ℕ
  b = o.b

  b_top : f.nest.up b ≡ b
  b_top = search rules

  -- A blossom with vertices of its own is no part.
  pub out_not_part : (v : ℕ) → v < g.n → f.out v ≢ b → f.nest.up (f.out v) ≢ b
  out_not_part v l ne up = ne (sym (valid.outermost.tops v l) ∙ up)

  pub out_in : (v : ℕ) → v < g.n → f.out v ≡ b → new.out v ≡ o.part v
  out_in v l e = is.out v l ∙ cond-true (eqb (f.out v) b) (o.part v) (f.out v) (eq-eqb (f.out v) b e)

  pub out_old : (v : ℕ) → v < g.n → f.out v ≢ b → new.out v ≡ f.out v
  out_old v l ne = is.out v l ∙ cond-false (eqb (f.out v) b) (o.part v) (f.out v) (ne_eqb (f.out v) b ne)

  -- Each blossom is b, a part of it, or neither.
  abbrev pub Place : ℕ → Type 0
  Place x = (x ≡ b) ⊎ (((j : ℕ) × (j ≤ 2 * o.half) × (o.q j ≡ x)) ⊎ (f.nest.up x ≢ b))

  pub place : (x : ℕ) → Place x
  place x = search rules

  pub other_not_b : (x : ℕ) → f.nest.up x ≢ b → x ≢ b
  other_not_b x ne e = ne (ap f.nest.up e ∙ b_top)

  pub changes : ChangesOnly g.n f new b
  changes = assumption

  pub same_tight : {d : ℕ} → IsTight g f d → IsTight g new d
  same_tight = tight_stays are changes

  -- The part in which a vertex of b lies.
  part_has : (v : ℕ) → v < g.n → f.out v ≡ b → (f.nest.up (o.part v) ≡ b) × (o.part v ≢ b) × (o.part v < f.size)
  part_has v l e = let p = opening.part_of v l e in rw p.2 at (opening.parts p.0 p.1)

  held_part : {u v : ℕ} → u < g.n → v < g.n → f.out u ≡ b → f.out v ≡ b → f.holds (o.part u) v
      ≡ eqb (o.part v) (o.part u)
  held_part {u} {v} lu lv eu ev = let p = opening.part_of u lu eu in rw p.2 at (opening.held v p.0 lv ev p.1)

  -- The ends of the darts between parts.
  begins : (j : ℕ) → j < 2 * o.half → new.out (g.near (o.e j)) ≡ o.q j
  begins j l = grind (arith, opening.begins j l, out_in (g.near (o.e j)) (are.near_low (o.e j) (opening.tight j l).low))

  ends : (j k : ℕ) → j < 2 * o.half → k ≡ j + 1 → new.out (far g (o.e j)) ≡ o.q k
  ends j k l e = grind (arith, opening.ends j l, out_in (far g (o.e j)) (far_low g are (o.e j) (opening.tight j l).low))

  b_pair : IsMate g f b o.m
  b_pair = valid.matched b o.m opening.mate

  m_at : new.out (g.near o.m) ≡ o.q 0
  m_at = out_in (g.near o.m) (are.near_low o.m b_pair.tight.low) b_pair.here ∙ opening.first

  -- The mate of b leaves part 0, and the dart from the part before ends in any other.
  named_part : (j : ℕ) → j ≤ 2 * o.half → IsOutermost g.n new (o.q j)
  named_part zero l = (g.near _, are.near_low _ b_pair.tight.low, m_at)
  named_part (suc k) l = (far g _, far_low g are _ (opening.tight k l).low, ends k _ l (omega arith))

  pub new_outermost : AreOutermost g.n new
  new_outermost = record {
    vertices = rw is.size valid.outermost.vertices;
    out_low = λ v l. grind (arith, is.out v l, part_has v l, valid.outermost.out_low v l);
    held = λ u v lu lv. elim (cases_eq (f.out u) b) [
      | inl eu ↦ rw (out_in u lu eu, is.holds (o.part u) v (part_has u lu eu).1 lv) (elim (cases_eq (f.out v) b) [
        | inl ev ↦ rw (out_in v lv ev) (held_part lu lv eu ev)
        | inr nv ↦ (let own = held_part lu lu eu eu in
            search (rules, out_old))
      ])
      | inr nu ↦ rw (out_old u lu nu, is.holds (f.out u) v nu lv) (let was = valid.outermost.held u v lu lv in
          grind (arith, is.out v lv))
    ];
    tops = λ v l. (let top = valid.outermost.tops v l in let part = part_has v l in let kept = is.others (f.out v) in
        search (rules, cases_eq (f.out v) b, out_in, out_old, part, kept, is.parts_out, out_not_part));
    together = λ x u v lu lv hu hv. (let parted = opening.parted x u v lu lv in
        let was = valid.outermost.together x u v lu lv in
        grind (arith, is.out u lu, is.out v lv, is.holds_none u lu, is.holds x u, is.holds x v));
    named = λ x n. elim (place x) [
      | inl e ↦ absurd (n (ap new.label e ∙ is.gone.0))
      | inr (inl p) ↦ rw p.2 at (named_part p.0 p.1)
      | inr (inr ne) ↦ (let w = valid.outermost.named x (λ off. n ((is.others x ne).label ∙ off)) in
          search (rules, out_old w.0, other_not_b))
    ];
  }

  -- The ring of another set stays.
  ring_old : {c : ℕ} → c ≢ b → IsRing g f c → IsRing g new c
  ring_old {c} ne ring = same_ring are changes ne ring (λ p up inner. search (rules, other_not_b))
      (λ p up inner. (grind (arith, cases_eq (f.nest.up p) b, is.parts_out p)))

  -- A joint beside b leads from an outermost blossom to itself.
  joint_kept : (p : ℕ) → f.nest.up p ≢ p → f.nest.up p ≢ b → IsJoint g new p
  joint_kept p inner ne =
      let live = valid.nested.live p inner in
      let ring = valid.nested.rings (f.nest.up p) live.0 live.1 in
      let at = ring.all p refl (λ e. inner (sym e)) in
      -- The part after it lies in the same set, which is no part of itself.
      let up = rw at.2 at (ring.inside (suc at.0)) in
      let low = rw at.2 at (ring.lower (suc at.0)) in
      let after_inner : f.nest.up (f.nest.after p) ≢ f.nest.after p = λ e. search rules in
      let old = valid.nested.joints p inner in
      let start = g.near (f.nest.joint p) in
      let end = far g (f.nest.joint p) in
      let start_low = are.near_low (f.nest.joint p) old.tight.low in
      let end_low = far_low g are (f.nest.joint p) old.tight.low in
      let kept = is.others p ne in
      same_joint are changes (other_not_b p ne) (λ e. ne (sym up ∙ ap f.nest.up e ∙ b_top)) kept.after kept.joint
      (let first = holds_up valid.nested p start start_low inner old.begins in
      let last = rw up at (holds_up valid.nested (f.nest.after p) end end_low after_inner old.ends) in
      let parted = opening.parted (f.nest.up p) start end start_low end_low ne first last in
      grind (arith, is.out start start_low, is.out end end_low)) old

  pub new_nested : IsNested g new
  new_nested = same_nested are changes valid.nested (λ some. absurd (some is.no_parts)) (λ v l none. is.holds_none v l)
      (λ c ne. ring_old ne) (λ p inner. (let kept = not_b p inner in search rules))
      (λ p inner. joint_kept p (λ e. inner ((is.others p (not_b p inner)).up ∙ e)) (not_b p inner))
    where
      not_b : (p : ℕ) → new.nest.up p ≢ p → f.nest.up p ≢ b
      not_b p inner e = inner (is.parts_out p e)

  -- The places along the ring.
  place_of : ℕ → ℕ
  place_of x = dart_or (least (λ j. eqb (o.q j) x) (2 * o.half + 1))

  place_is : (j : ℕ) → j ≤ 2 * o.half → place_of (o.q j) ≡ j
  unfolding place_of
  place_is j l = ap dart_or (least_some (λ i. eqb (o.q i) (o.q j)) (2 * o.half + 1) j (omega arith)
      (λ k lk. ne_eqb (o.q k) (o.q j) (opening.distinct k j lk l)) (eq-eqb (o.q j) (o.q j) refl))

  -- Depths: there is room between the outer blossom on which b hung and b's mate.
  abbrev room : ℕ
  room = o.half + 1

  abbrev depths : ℕ → ℕ
  depths x = cond (eqb (f.nest.up x) b) (room * tree.depth b - (place_of x + 1) / 2) (room * tree.depth x)

  depth_part : (j k : ℕ) → j ≤ 2 * o.half → k ≡ (j + 1) / 2 → depths (o.q j) ≡ room * tree.depth b - k
  depth_part j k l e = rw (eq-eqb (f.nest.up (o.q j)) b (opening.parts j l).0, place_is j l, e) refl

  deeper : (p d : ℕ) → p < d → room * p + room ≤ room * d
  deeper p d l = let h : room * (p + 1) ≤ room * d = mul-le-mul_left room (omega arith) in omega arith

  -- The blossom to which a dart leads. Where it is not b, it is as it was.
  abbrev beyond : ℕ → ℕ
  beyond d = f.out (far g d)

  beyond_out : {d : ℕ} → IsTight g f d → beyond d ≢ b → new.out (far g d) ≡ beyond d
  beyond_out {d} tight ne = out_old (far g d) (far_low g are d tight.low) ne

  beyond_free : {d : ℕ} → IsTight g f d → beyond d ≢ b → f.nest.up (beyond d) ≢ b
  beyond_free {d} tight ne = out_not_part (far g d) (far_low g are d tight.low) ne

  beyond_label : {d : ℕ} → IsTight g f d → beyond d ≢ b → new.label (new.out (far g d)) ≡ f.label (beyond d)
  beyond_label {d} tight ne = rw (beyond_out tight ne) (is.others (beyond d) (beyond_free tight ne)).label

  beyond_mate : {d : ℕ} → IsTight g f d → beyond d ≢ b → new.mate (new.out (far g d)) ≡ f.mate (beyond d)
  beyond_mate {d} tight ne = rw (beyond_out tight ne) (is.others (beyond d) (beyond_free tight ne)).mate

  beyond_depth : {d : ℕ} → IsTight g f d → beyond d ≢ b → depths (new.out (far g d)) ≡ room * tree.depth (beyond d)
  beyond_depth {d} tight ne = search (rules, beyond_out, beyond_free)

  near_old : {c d : ℕ} → f.nest.up c ≢ b → IsTight g f d → f.out (g.near d) ≡ c → new.out (g.near d) ≡ c
  near_old {c} {d} ne tight here = search (rules, out_old, other_not_b)

  b_inner : IsInner g f tree.depth b
  b_inner = tree.inner b opening.label

  back_begins : (j : ℕ) → j < 2 * o.half → new.out (far g (g.twin (o.e j))) ≡ o.q j
  back_begins j l = ap new.out (far_twin are (o.e j)) ∙ begins j l

  -- Parts 2 i + 1 and 2 i + 2 are matched to each other.
  pair_at : (i : ℕ) → i < o.half → IsMate g new (o.q (2 * i + 1)) (o.e (2 * i + 1))
      × IsMate g new (o.q (2 * i + 2)) (g.twin (o.e (2 * i + 1)))
  pair_at i l =
      let lt : 2 * i + 1 < 2 * o.half = omega arith in
      let begin = begins (2 * i + 1) lt in
      let tight = same_tight (opening.tight (2 * i + 1) lt) in let twin = tight_twin are tight in
      let end = ends (2 * i + 1) (2 * i + 2) lt (omega arith) in
      grind (arith, is.odd_mate i l, is.even_mate i l, are.twin_twin (o.e (2 * i + 1)))

  -- The mates of a part, by its place.
  mate_at : (j : ℕ) → j ≤ 2 * o.half → (d : ℕ) → new.mate (o.q j) ≡ Some d → IsMate g new (o.q j) d
  mate_at zero l d mate = search (rules, b_pair, same_tight, beyond_mate, m_at)
  mate_at (suc j) l d mate = elim (halves j) [
    | inl w ↦ (let low : w.0 < o.half = omega (arith, w.1) in let at : suc j ≡ 2 * w.0 + 1 = omega (arith, w.1) in
        let pair = pair_at w.0 low in let own = is.odd_mate w.0 low in grind arith)
    | inr w ↦ (let low : w.0 < o.half = omega (arith, w.1) in let at : suc j ≡ 2 * w.0 + 2 = omega (arith, w.1) in
        let pair = pair_at w.0 low in let own = is.even_mate w.0 low in grind arith)
  ]

  twin_at : {c d : ℕ} → IsMate g f c d → beyond d ≡ b → new.out (far g d) ≡ o.q 0
  twin_at pair e = ap (λ x. new.out (g.near x)) (search (rules, valid.matched)) ∙ m_at

  -- The links of the parts that become inner.
  record Hangs (i d : ℕ) : Type 0 where
    pub tight : IsTight g new d
    pub here : new.out (g.near d) ≡ o.q (2 * i)
    pub above : new.label (new.out (far g d)) ≡ Outer
    pub nearer : depths (new.out (far g d)) < room * tree.depth b - i

  outer_not : (x : ℕ) → f.label x ≡ Outer → x ≢ b
  outer_not x label e = cc opening.label

  enough : (i : ℕ) → i ≤ o.turns → room * tree.depth (beyond (f.link b)) + i < room * tree.depth b
  enough i l = omega (arith, deeper (tree.depth (beyond (f.link b))) (tree.depth b) b_inner.nearer, opening.short)

  hangs : (i : ℕ) → i ≤ o.turns → Hangs i (new.link (o.q (2 * i)))
  hangs i l = elim (cases_eq i o.turns) [
    | inr ne ↦ (let lt : 2 * i < 2 * o.half = omega (arith, opening.short) in
        let end = ends (2 * i) (2 * i + 1) lt refl in
        let own = depth_part (2 * i + 1) (i + 1) (omega arith) (omega arith) in
        let tight = same_tight (opening.tight (2 * i) lt) in
        let deep = enough i l in
        rw (is.link i (omega arith)) (grind (arith, begins (2 * i) lt, is.outer i (omega arith))))
    | inl at ↦ (let nb = outer_not (beyond (f.link b)) b_inner.above in
        let old = b_inner in let tight = same_tight old.tight in
        let here = out_in (g.near (f.link b)) (are.near_low (f.link b) old.tight.low) in
        let label = beyond_label old.tight nb in
        let deep = enough i l in search (rules, beyond_depth))
  ]

  inner_part : (i : ℕ) → i ≤ o.turns → IsInner g new depths (o.q (2 * i))
  inner_part i l =
      let own = depth_part (2 * i) i (omega (arith, opening.short)) (omega arith) in
      let hung = hangs i l in
      let mated : (d : ℕ) × (new.mate (o.q (2 * i)) ≡ Some d) × (new.label (new.out (far g d)) ≡ Outer)
      × (depths (new.out (far g d)) ≡ room * tree.depth b - i) = elim (cases_eq i 0) [
        | inl z ↦ (let pair = b_pair in let old = b_inner in rw z (search (rules, beyond_label, beyond_depth)))
        | inr nz ↦ (let k = i - 1 in let lt : k < o.half = omega (arith, opening.short) in
            let at : 2 * i ≡ 2 * k + 2 = omega arith in
            let back = back_begins (2 * k + 1) (omega arith) in
            let label = is.outer k (omega arith) in
            let deep = depth_part (2 * k + 1) i (omega arith) (omega arith) in
            rw at (g.twin (o.e (2 * k + 1)), is.even_mate k lt, cc, cc))
      ] in
      search rules

  inner_old : {c : ℕ} → f.nest.up c ≢ b → IsInner g f tree.depth c → IsInner g new depths c
  inner_old {c} ne old =
      let link = (is.others c ne).link in
      let up = outer_not (beyond (f.link c)) old.above in
      let down = (valid.matched c old.dart old.mate).tight in
      let child = outer_not (beyond old.dart) old.child in
      let deep = deeper (tree.depth (beyond (f.link c))) (tree.depth c) old.nearer in
      let mate = (is.others c ne).mate in
      search (rules, beyond_depth, same_tight, near_old, beyond_label)

  -- A part is inner or outer by turns up to the last turn, and outside beyond it.
  part_order : (j : ℕ) → j ≤ 2 * o.half → IsInOrder g new r depths (o.q j)
  part_order j l = let mates = mate_at j l in elim (halves j) [
    | inl w ↦ elim (cases_lt o.turns w.0) [
      | inl past ↦ (let k = w.0 - 1 in
          let label = is.off j (omega (arith, w.1)) l in
          let back = back_begins (2 * k + 1) (omega arith) in
          let mate = is.even_mate k (omega arith) in
          search rules)
      | inr near ↦ grind (arith, is.inner w.0 near, inner_part w.0 near)
    ]
    | inr w ↦ (let i = w.0 in
        let mate = is.odd_mate i (omega (arith, w.1)) in
        let end = ends (2 * i + 1) (2 * (i + 1)) (omega (arith, w.1)) (omega arith) in
        elim (cases_lt i o.turns) [
          | inl near ↦ grind (arith, is.outer i near, is.inner (i + 1))
          | inr past ↦ grind (arith, is.off j, is.off (2 * (i + 1)))
        ])
  ]

  old_order : (c : ℕ) → f.nest.up c ≢ b → IsInOrder g new r depths c
  old_order c ne = let kept = is.others c ne in record {
    matched = λ d mate. (let pair = valid.matched c d (sym kept.mate ∙ mate) in
        let tight = same_tight pair.tight in let here = near_old ne pair.tight pair.here in
        let at = twin_at pair in search (rules, beyond_mate));
    inner = λ l. inner_old ne (tree.inner c (sym kept.label ∙ l));
    outer = λ l. (let first = is.inner 0 (omega arith) in elim (tree.outer c (sym kept.label ∙ l)) [
      | inl e ↦ inl e
      | inr w ↦ (let pair = valid.matched c w.0 w.1 in let at = twin_at pair in search (rules, beyond_label))
    ]);
    outside = λ d l mate. (grind (arith, valid.matched c d, beyond_label, valid.outside c d));
  }

  in_order : (c : ℕ) → IsInOrder g new r depths c
  in_order c = elim (place c) [
    | inl e ↦ (search rules)
    | inr (inl p) ↦ rw p.2 at (part_order p.0 p.1)
    | inr (inr ne) ↦ old_order c ne
  ]

  -- An inner set of weight 0 may be opened.
  pub opened_valid : IsValid g new (Some r)
  opened_valid =
      let r_old : f.nest.up r ≢ b = search rules in
      tree_valid depths new_outermost new_nested (same_feasible are changes valid.feasible)
      ((is.others r r_old).label ∙ tree.root_outer) ((is.others r r_old).mate ∙ tree.root_free) in_order
