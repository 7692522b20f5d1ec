-- An inner set that is opened: the ring of the set before, and its parts and the darts between them after. The parts
-- are matched and hung into the tree, along the ring or against it, so that the set is expanded.
use Rattle.std.proofs.Common.{rules, ◌≡◌, ◌≢◌, ℕ, suc, ◌+◌, ◌-◌, ◌*◌, ◌/◌, ◌%◌, ◌<◌, ◌≤◌, Bool, true, false, cond, eqb}
use Rattle.std.proofs.Common.{ℤ, Option, Some, None, refl, sym, ◌∙◌, ap, inl, inr, arith}
use Rattle.std.proofs.lemmas.Bool.{cases_Bool, cases_eq, cond-true, cond-false, eq-eqb, ne_eqb}
use Rattle.std.proofs.lemmas.Bool.{false_from_ne_true, true_from_ne_false}
use Rattle.def_matching.specs.Matching.{WeightedGraph}
use Rattle.def_forest.specs.Opened.{IsExpanding, IsOpened, IsOpening, KeepsParts, Opening, StaysAt}
use Rattle.def_forest.specs.{Darts.Darts, Darts.darts_of, Darts.far, declared.kinds.Label.Label}
use Rattle.def_forest.specs.{Forests.Forest, Forests.IsTight, Forests.walk, Tables.ForestTables}
use Rattle.def_forest.specs.{Tables.forest_of, Valid.IsInner, Valid.IsJoint, Valid.IsRing}
use Rattle.def_forest.specs.declared.kinds.Label.TheVariants.{Outer, Inner, Outside}
use Rattle.forest_laws.proofs.Walks.{IsCircle, circle_from, walk_sum, writes_at, writes_off}
use Rattle.forest_laws.proofs.Grows.{far_low, far_twin, set_here, set_there, tight_twin, true_false}
use Rattle.qm_forest.specs.Parts.{IsCourse, IsParted, hung, paired, side_dart, turn_label}
use Rattle.qm_forest.specs.{Ties.labelled, Ties.linked, Ties.mated}
use Rattle.{forest_laws.specs.Walks.listed, qm_forest.specs.declared.expanding.Course.Course}
use Rattle.qm_forest.proofs.Inners.{CanOpen, are, in_tree as in_tree_of, inside as inside_of, ring_is as ring_of}
use Rattle.qm_forest.proofs.Inners.{around_part, circle_is, mate_is, next_part, part_around, part_in, part_inner}
use Rattle.qm_forest.proofs.Inners.{part_low, part_other, part_outside, top_is, tree_is}

-- Where one lies in a set or is as it was, it is told by what was.
out_told : (o p b : ℕ) (on : Bool) → o ≡ cond on b p → p ≢ b → p ≡ cond (eqb o b) p o
out_told o p b on was ne = grind arith

even_is : (k i : ℕ) → k ≡ 2 * i → turn_label k ≡ Inner
even_is k i e = cond-true _ _ _ (eq-eqb (k % 2) 0 (omega arith))

odd_is : (k i : ℕ) → k ≡ 2 * i + 1 → turn_label k ≡ Outer
odd_is k i e = cond-false _ _ _ (ne_eqb (k % 2) 0 (λ z. absurd (omega arith)))

module _ {g : WeightedGraph} {t0 : ForestTables} {b : ℕ} (ready : CanOpen g t0 b) where
  open ready use {is, valid}

  abbrev d : Darts
  d = darts_of g

  abbrev f0 : Forest
  f0 = forest_of t0

  abbrev many : ℕ
  many = f0.nest.parts b

  abbrev inside : ℕ → Bool
  inside = inside_of ready

  abbrev ring_is : IsRing d f0 b
  ring_is = ring_of ready

  abbrev in_tree : IsInner d f0 (tree_is ready).2.depth b
  in_tree = in_tree_of ready

  -- The joint of a part is tight, and leads from it to the next.
  pub record IsJoined (part after darts : ℕ → ℕ) (x : ℕ) : Type 0 where
    pub tight : IsTight d f0 (darts x)
    pub near_in : f0.out (d.near (darts x)) ≡ b
    pub near_part : part (d.near (darts x)) ≡ x
    pub far_in : f0.out (far d (darts x)) ≡ b
    pub far_part : part (far d (darts x)) ≡ after x

  -- The set is parted.
  module _ {f2 : Forest} (parted : IsParted g.n (mated (labelled f0 b Outside) b None) f2
      (listed f0.nest.after (f0.nest.head b) (f0.nest.parts b)) b) where
    abbrev pub next : ℕ → ℕ
    next = f2.nest.after

    abbrev pub joint : ℕ → ℕ
    joint = f2.nest.joint

    abbrev part : ℕ → ℕ
    part = f2.out

    pub joined : (x : ℕ) → inside x ≡ true → IsJoined part next joint x
    joined x on = rw (parted.joint, parted.after) (record {
      tight = old.tight;
      near_in = part_in ready x (d.near (f0.nest.joint x)) on near_low old.begins;
      near_part = parted.own x (d.near (f0.nest.joint x)) on near_low old.begins;
      far_in = part_in ready (f0.nest.after x) (far d (f0.nest.joint x)) (next_part ready x on) far_is_low old.ends;
      far_part = parted.own (f0.nest.after x) (far d (f0.nest.joint x)) (next_part ready x on) far_is_low old.ends;
    })
      where
        old : IsJoint d f0 x
        old = valid.valid.nested.joints x (part_inner ready x on)

        near_low : d.near (f0.nest.joint x) < g.n
        near_low = (are ready).near_low (f0.nest.joint x) old.tight.low

        far_is_low : far d (f0.nest.joint x) < g.n
        far_is_low = far_low d (are ready) (f0.nest.joint x) old.tight.low

    -- The vertices of the set are those of its parts.
    pub in_part : (v : ℕ) → v < g.n → f0.out v ≡ b → inside (part v) ≡ true
    in_part v l e = true_from_ne_false _ (λ off. parted.ended v l (sym (parted.out v l ∙ cond-false _ _ _ off) ∙ e))

    pub out_is : (v : ℕ) → v < g.n → f2.out v ≡ cond (eqb (f0.out v) b) (part v) (f0.out v)
    out_is v l = out_told (f0.out v) (part v) b (inside (part v)) (parted.out v l) (parted.ended v l)

    held_part : (x v : ℕ) → inside x ≡ true → v < g.n → f0.holds x v ≡ eqb (part v) x
    held_part x v on l = elim (cases_Bool (f0.holds x v)) [
      | inl held ↦ held ∙ sym (eq-eqb (part v) x (parted.own x v on l held))
      | inr free ↦ free ∙ sym (ne_eqb (part v) x (λ e. true_false (rw e at (parted.holds_out v l)) free))
    ]

    abbrev pub first : ℕ
    first = part (d.near in_tree.dart)

    abbrev pub last : ℕ
    last = part (d.near (f0.link b))

    pub first_in : inside first ≡ true
    first_in = let m = mate_is ready in in_part (d.near in_tree.dart) ((are ready).near_low _ m.tight.low) m.here

    pub last_in : inside last ≡ true
    last_in = in_part (d.near (f0.link b)) ((are ready).near_low (f0.link b) in_tree.tight.low) in_tree.here

    pub ring_from : (x : ℕ) → inside x ≡ true → IsCircle next x many inside
    ring_from x on = rw parted.after (circle_from f0.nest.after (f0.nest.head b) many inside (circle_is ready) x on)

    -- The parts in the order in which the tree goes through them, and the darts between them.
    pub record IsRoute (q e : ℕ → ℕ) : Type 0 where
      pub begins : q 0 ≡ first
      pub marked : (j : ℕ) → inside (q j) ≡ true
      pub distinct : (i j : ℕ) → i < j → j ≤ 2 * ring_is.half → q i ≢ q j
      pub all : (x : ℕ) → inside x ≡ true → (j : ℕ) × (j ≤ 2 * ring_is.half) × (q j ≡ x)
      pub tight : (j : ℕ) → j < 2 * ring_is.half → IsTight d f0 (e j)
      pub near : (j : ℕ) → j < 2 * ring_is.half → (f0.out (d.near (e j)) ≡ b) × (part (d.near (e j)) ≡ q j)
      pub far : (j : ℕ) → j < 2 * ring_is.half → (f0.out (far d (e j)) ≡ b) × (part (far d (e j)) ≡ q (j + 1))

    abbrev pub opening_at : (q e : ℕ → ℕ) (turns : ℕ) → Opening
    opening_at q e turns = record {
      b = b;
      m = in_tree.dart;
      half = ring_is.half;
      turns = turns;
      q = q;
      e = e;
      part = part;
    }

    pub opening_is : {q e : ℕ → ℕ} (turns : ℕ) → IsRoute q e → turns ≤ ring_is.half → q (2 * turns) ≡ last
        → IsOpening d f0 (opening_at q e turns)
    opening_is {q} turns route short ends =
        let parts : (j : ℕ) → j ≤ 2 * ring_is.half → (f0.nest.up (q j) ≡ b) × (q j ≢ b) × (q j < f0.size) = λ j l. (
          part_around ready _ (route.marked j),
          part_other ready _ (route.marked j),
          part_low ready _ (route.marked j),
        )
        in
        assumption (
          (λ (p : ℕ) (up : f0.nest.up p ≡ b) (ne : p ≢ b). route.all p (around_part ready p up ne)),
          (λ (v : ℕ) (l : v < g.n) (e : f0.out v ≡ b). route.all (part v) (in_part v l e)),
          (λ (v j : ℕ) (l : v < g.n) (e : f0.out v ≡ b) (lj : j ≤ 2 * ring_is.half). held_part _ v (route.marked j) l),
          (λ (x u v : ℕ) (lu : u < g.n) (lv : v < g.n) (ne : x ≢ b) (hu : f0.holds x u ≡ true)
              (hv : f0.holds x v ≡ true) (eu : f0.out u ≡ b) (ev : f0.out v ≡ b). parted.together x u v lu lv ne hu hv),
          sym route.begins,
          sym ends,
          in_tree.mate,
          ring_is.some,
        )

    -- Along its ring and against it: labels, mates and links after the parts are matched and hung into the tree.
    abbrev at : ℕ → ℕ
    at k = walk next first k

    circle : IsCircle next first many inside
    circle = ring_from first first_in

    joint_at : (k : ℕ) → IsJoined part next joint (at k)
    joint_at k = joined (at k) (circle.marked k)

    -- A place that is told otherwise.
    at_same : (i j : ℕ) → i ≡ j → at i ≡ at j
    at_same i j e = ap at e

    -- Along the ring.
    route_on : IsRoute at (λ j. joint (at j))
    route_on = record {
      begins = refl;
      marked = circle.marked;
      distinct = λ i j lij lj. circle.distinct i j lij (omega (arith, ring_is.odd, lj));
      all = λ x on. (let w = circle.all x on in (w.0, omega (arith, ring_is.odd, w.1), w.2));
      tight = λ j l. (joint_at j).tight;
      near = λ j l. ((joint_at j).near_in, (joint_at j).near_part);
      far = λ j l. ((joint_at j).far_in, (joint_at j).far_part ∙ at_same (suc j) (j + 1) (omega arith));
    }

    -- Against it.
    route_back : IsRoute (λ j. at (many - j)) (λ j. d.twin (joint (at (many - suc j))))
    route_back = record {
      begins = at_same _ _ (omega arith) ∙ circle.closed;
      marked = λ j. circle.marked (many - j);
      distinct = λ i j lij lj e. elim (cases_eq i 0) [
        | inl z ↦ circle.distinct 0 (many - j) (omega (arith, ring_is.odd, lj)) (omega (arith, ring_is.odd, lij, lj))
            (sym circle.closed ∙ (at_same _ _ (omega (arith, z)) ∙ e))
        | inr nz ↦ circle.distinct (many - j) (many - i) (omega (arith, ring_is.odd, lij, lj))
            (omega (arith, ring_is.odd, lij, lj, nz)) (sym e)
      ];
      all = λ x on. (let w = circle.all x on in elim (cases_eq w.0 0) [
        | inl z ↦ (0, omega arith, at_same _ _ (omega arith) ∙ (circle.closed ∙ (ap at (sym z) ∙ w.2)))
        | inr nz ↦ (many - w.0, omega (arith, ring_is.odd, nz), at_same _ _ (omega (arith, w.1)) ∙ w.2)
      ]);
      tight = λ j l. tight_twin (are ready) (joint_at _).tight;
      near = λ j l. (
        (joint_at _).far_in,
        (joint_at _).far_part ∙ at_same (suc (many - suc j)) _ (omega (arith, ring_is.odd, l)),
      );
      far = λ j l. (
        ap f0.out (far_twin (are ready) _) ∙ (joint_at _).near_in,
        ap f2.out (far_twin (are ready) _) ∙ ((joint_at _).near_part ∙ at_same _ _ (omega arith)),
      );
    }

    b_off : inside b ≡ false
    b_off = false_from_ne_true (inside b) (λ on. part_other ready b on refl)

    other_off : (x : ℕ) → f0.nest.up x ≢ b → inside x ≡ false
    other_off x ne = false_from_ne_true (inside x) (λ on. ne (part_around ready x on))

    placeless : (x : ℕ) → inside x ≡ true → f2.label x ≡ Outside
    placeless x on = cc (set_there f0.label b x Outside (part_other ready x on), part_outside ready x on)

    -- The parts are matched along the ring, the first one as the set was.
    abbrev matched : Forest
    matched = mated (paired f2 first many) first (Some in_tree.dart)

    -- And some of them hang in the tree, the last one where the set hung.
    abbrev pub laid : (front count : ℕ) (forward : Bool) → Forest
    laid front count forward = linked (hung matched front count forward) last (f0.link b)

    -- A way of so many parts from one on is hung into the tree.
    record IsLaid (front count : ℕ) (forward : Bool) : Type 0 where
      marked : inside front ≡ true
      few : count ≤ many

    module _ {front count : ℕ} {forward : Bool} (lies : IsLaid front count forward) where
      abbrev f6 : Forest
      f6 = laid front count forward

      mate_at : (k : ℕ) → 1 ≤ k → k < many → f6.mate (at k) ≡ Some (side_dart f2 (at (k - 1)) (at k) (eqb (k % 2) 1))
      mate_at k some l = set_there (paired f2 _ _).mate _ _ _ (λ e. circle.distinct 0 k some l (sym e)) ∙ writes_at _
          at (λ j. Some (side_dart f2 (at (j - 1)) (at j) (eqb (j % 2) 1))) many k l circle.distinct

      mate_odd : (k i : ℕ) → k ≡ 2 * i + 1 → k < many → f6.mate (at k) ≡ Some (joint (at k))
      mate_odd k i e l = search (rules, mate_at, cond-true, eq-eqb)

      mate_even : (k j i : ℕ) → k ≡ 2 * i + 2 → k ≡ suc j → k < many → f6.mate (at k) ≡ Some (d.twin (joint (at j)))
      mate_even k j i e ej l = mate_at k (omega (arith, e)) l ∙ ap (λ (x : ℕ). Some x) (cond-false _ _ _
          (ne_eqb (k % 2) 1 (λ z. absurd (omega (arith, e, z)))) ∙ ap (λ x. d.twin (joint x))
          (at_same (k - 1) j (omega (arith, ej))))

      mate_first : f6.mate first ≡ Some in_tree.dart
      mate_first = set_here (paired f2 first many).mate first (Some in_tree.dart)

      mate_off : (x : ℕ) → inside x ≡ false → f6.mate x ≡ f2.mate x
      mate_off x off = set_there (paired f2 first many).mate _ _ _ (λ e. true_false (ap inside e ∙ circle.marked 0) off)
          ∙ writes_off f2.mate at _ many x (λ k lk e. true_false (ap inside (sym e) ∙ circle.marked k) off)

      -- The way that hangs in the tree goes along the ring.
      abbrev way : ℕ → ℕ
      way k = walk next front k

      ring : IsCircle next front many inside
      ring = ring_from front lies.marked

      differ : (i j : ℕ) → i < j → j < count → way i ≢ way j
      differ i j lij lj = ring.distinct i j lij (omega (arith, lj, lies.few))

      label_at : (k : ℕ) → k < count → f6.label (way k) ≡ turn_label k
      label_at k l = writes_at f2.label way turn_label count k l differ

      label_missed : (x : ℕ) → ((k : ℕ) → k < count → way k ≢ x) → f6.label x ≡ f2.label x
      label_missed x missed = writes_off f2.label way turn_label count x missed

      link_at : (k : ℕ) → k < count → way k ≢ last
          → f6.link (way k) ≡ side_dart f2 (way (k - 1)) (way k) forward
      link_at k l ne = set_there (hung matched front count forward).link _ _ _ ne ∙ writes_at _ _ _ _ k l differ

      label_off : (x : ℕ) → inside x ≡ false → f6.label x ≡ f2.label x
      label_off x off = label_missed x (λ k lk e. true_false (ap inside (sym e) ∙ ring.marked k) off)

      link_off : (x : ℕ) → inside x ≡ false → f6.link x ≡ f2.link x
      link_off x off = set_there (hung matched front count forward).link last x (f0.link b)
          (λ e. true_false (ap inside e ∙ last_in) off)
          ∙ writes_off f2.link way _ count x (λ k lk e. true_false (ap inside (sym e) ∙ ring.marked k) off)

      -- Where the parts stand, and how they are joined, in the order of a route.
      record HasPlaces (q e : ℕ → ℕ) (turns : ℕ) : Type 0 where
        inners : (i : ℕ) → i ≤ turns → f6.label (q (2 * i)) ≡ Inner
        outers : (i : ℕ) → i < turns → f6.label (q (2 * i + 1)) ≡ Outer
        off : (j : ℕ) → 2 * turns < j → j ≤ 2 * ring_is.half → f6.label (q j) ≡ Outside
        odd_mate : (i : ℕ) → i < ring_is.half → f6.mate (q (2 * i + 1)) ≡ Some (e (2 * i + 1))
        even_mate : (i : ℕ) → i < ring_is.half → f6.mate (q (2 * i + 2)) ≡ Some (d.twin (e (2 * i + 1)))
        links : (i : ℕ) → i < turns → f6.link (q (2 * i)) ≡ e (2 * i)
        ends : q (2 * turns) ≡ last

      opened_is : {q e : ℕ → ℕ} {turns : ℕ} → IsRoute q e → HasPlaces q e turns
          → IsOpened d f0 f6 (opening_at q e turns)
      opened_is route places =
          let others : (x : ℕ) → f0.nest.up x ≢ b → StaysAt f0 f6 x = λ x ne. (
          let top = valid.valid.outermost.tops (top_is ready).0 (top_is ready).1 in
          let other : x ≢ b = λ e. ne (ap f0.nest.up e ∙ rw (top_is ready).2 at top) in
          record {
            label = label_off x (other_off x ne)
                ∙ (ap (λ (h : ℕ → Label). h x) parted.label ∙ set_there f0.label b x Outside other);
            mate = mate_off x (other_off x ne)
                ∙ (ap (λ (h : ℕ → Option ℕ). h x) parted.mate ∙ set_there f0.mate b x None other);
            link = link_off x (other_off x ne) ∙ ap (λ (h : ℕ → ℕ). h x) parted.link;
            up = parted.up x ∙ cond-false _ _ _ (other_off x ne);
            after = ap (λ (h : ℕ → ℕ). h x) parted.after;
            joint = ap (λ (h : ℕ → ℕ). h x) parted.joint;
          }) in
          let parts_out : (x : ℕ) → f0.nest.up x ≡ b → f6.nest.up x ≡ x =
          λ x up. grind (arith, parted.up x, b_off, around_part ready x up) in
          let sets : (x : ℕ) → x ≢ b → KeepsParts f0 f6 x = search (rules, parted, set_there) in
          assumption (
            (λ (x : ℕ). ap (λ (h : ℕ → ℤ). h x) parted.weight),
            out_is,
            ap f6.mate route.begins ∙ mate_first,
            ap f6.link places.ends ∙ set_here (hung matched front count forward).link last (f0.link b),
            label_off b b_off ∙ (ap (λ (h : ℕ → Label). h b) parted.label ∙ set_here f0.label b Outside),
            mate_off b b_off ∙ (ap (λ (h : ℕ → Option ℕ). h b) parted.mate ∙ set_here f0.mate b None),
            parted.parts b ∙ set_here f0.nest.parts b 0,
          )

      expanding_at : {q e : ℕ → ℕ} {turns : ℕ} → IsRoute q e → turns ≤ ring_is.half → HasPlaces q e turns
          → IsExpanding d f0 f6 b
      expanding_at {turns = turns} route short places =
          search (rules, opening_is turns route short places.ends, opened_is route places)

    -- The tree goes along the ring.
    expanding_on : {steps : ℕ} → steps < many → at steps ≡ last → steps % 2 ≡ 0
        → IsExpanding d f0 (laid first (steps + 1) true) b
    expanding_on {steps} low ends even =
        let lies : IsLaid first (steps + 1) true = record { marked = first_in; few = omega (arith, low) } in
        expanding_at lies route_on (omega (arith, low, ring_is.odd)) (record {
          inners = λ i l. label_at lies (2 * i) (omega (arith, l)) ∙ even_is _ i refl;
          outers = λ i l. label_at lies (2 * i + 1) (omega (arith, l)) ∙ odd_is _ i refl;
          off = λ j more l. label_missed lies (at j) (λ k lk. circle.distinct k j (omega (arith, lk, more, even))
              (omega (arith, l, ring_is.odd))) ∙ placeless (at j) (circle.marked j);
          odd_mate = λ i l. mate_odd lies _ i refl (omega (arith, ring_is.odd, l));
          even_mate = λ i l. mate_even lies _ _ i refl (omega arith) (omega (arith, ring_is.odd, l));
          links = λ i l. link_at lies (2 * i) (omega (arith, l))
              (λ e. circle.distinct (2 * i) steps (omega (arith, l)) low (e ∙ sym ends));
          ends = at_same (2 * (steps / 2)) _ (omega (arith, even)) ∙ ends;
        })

    -- The tree goes against the ring.
    module _ {steps : ℕ} (low : steps < many) (ends : at steps ≡ last) (uneven : steps % 2 ≡ 1) where
      abbrev back : Forest
      back = laid last (many - steps + 1) false

      abbrev turns : ℕ
      turns = (many - steps) / 2

      twice : 2 * turns ≡ many - steps
      twice = omega (arith, ring_is.odd, uneven, low)

      lies : IsLaid last (many - steps + 1) false
      lies = record { marked = last_in; few = omega (arith, uneven, low) }

      way_at : (k j : ℕ) → steps + k ≡ j → walk next last k ≡ at j
      way_at k j e = ap (λ x. walk next x k) (sym ends) ∙ (sym (walk_sum next first steps k) ∙ ap at e)

      label_back : (k j : ℕ) → k < many - steps + 1 → steps + k ≡ j → back.label (at j) ≡ turn_label k
      label_back k j l e = ap back.label (sym (way_at k j e)) ∙ label_at lies k l

      missed : (k j : ℕ) → k < many - steps + 1 → 2 * turns < j → j ≤ 2 * ring_is.half
          → walk next last k ≢ at (many - j)
      missed k j lk more lj =
          let odd = ring_is.odd in let two = twice in let end = way_at k many in let here = way_at k (steps + k) refl in
          grind (arith, circle, circle.distinct (many - j) (steps + k), circle.distinct 0 (many - j))

      expanding_back : IsExpanding d f0 back b
      expanding_back = expanding_at lies route_back (omega (arith, twice, ring_is.odd, uneven)) (record {
        inners = λ i l. label_back (many - steps - 2 * i) (many - 2 * i) (omega (arith, low))
            (omega (arith, l, twice, low)) ∙ even_is (many - steps - 2 * i) (turns - i) (omega (arith, l, twice));
        outers = λ i l. label_back (many - steps - (2 * i + 1)) (many - (2 * i + 1)) (omega (arith, low))
            (omega (arith, l, twice, low)) ∙ odd_is (many - steps - (2 * i + 1)) (turns - suc i)
            (omega (arith, l, twice));
        off = λ j more l. label_missed lies (at (many - j)) (λ k lk. missed k j lk more l)
            ∙ placeless (at (many - j)) (circle.marked (many - j));
        odd_mate = λ i l. mate_even lies _ _ (ring_is.half - suc i)
            (omega (arith, ring_is.odd, l)) (omega (arith, ring_is.odd, l)) (omega (arith, ring_is.odd));
        even_mate = λ i l. mate_odd lies _ (ring_is.half - suc i) (omega (arith, ring_is.odd, l))
            (omega (arith, ring_is.odd)) ∙ ap (λ (x : ℕ). Some x) (ap joint (at_same _ _ (omega arith))
            ∙ sym ((are ready).twin_twin (joint (at (many - suc (2 * i + 1))))));
        links = λ i l. ap back.link (sym (way_at _ _ (omega (arith, l, twice, low))))
            ∙ (link_at lies (many - steps - 2 * i) (omega arith) (λ e. differ lies 0 (many - steps - 2 * i)
            (omega (arith, l, twice)) (omega arith) (sym e)) ∙ ap (λ x. d.twin (joint x))
            (way_at _ _ (omega (arith, l, twice, low))));
        ends = at_same _ _ (omega (arith, twice, low)) ∙ ends;
      })

    -- A course goes one way or the other.
    pub expanding : {course : Course} → IsCourse next first last many course → {f6 : Forest}
        → f6 ≡ laid course.front course.many course.forward → IsExpanding d f0 f6 b
    expanding {course} way {f6} done = elim way.way [
      | inl w ↦ rw (done, w.1, w.2, w.0) (expanding_on way.low way.at w.3)
      | inr w ↦ rw (done, w.1, w.2, w.0) (expanding_back way.low way.at w.3)
    ]
