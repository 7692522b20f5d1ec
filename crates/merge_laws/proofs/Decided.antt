-- Joinable arcs: those with a dart in common are one, each has a name, those that come up are told by where they run,
-- and whether one goes over a dart is decided.
use Rattle.std.proofs.Common.{◌≡◌, ◌⊎◌, ℕ, zero, suc, ◌-◌, ◌<◌, ◌≤◌, true, sym, ◌∙◌, ap, refl, inl, inr, true≢false}
use Rattle.std.proofs.Common.{rules, arith, ◌+◌, Option, Some, None}
use Rattle.std.proofs.{lemmas.Bool.cases_eq, lemmas.Bool.cases_lt, lemmas.Bool.cases_Bool, lemmas.Option.same_Some}
use Rattle.std.proofs.lemmas.Bool.{false_from_ne_true}
use Rattle.def_cut.specs.{Cuts.Cut, Cuts.IsCut, Cuts.IsCorner, Steps.easts, Steps.spin}
use Rattle.cut_laws.proofs.{Rows.grow, Rows.endless, Classes.closed, Classes.first_in, Classes.linked_in}
use Rattle.merge_laws.proofs.Sides.{side_low, side_on, first_place, one_place, one_size, corner_in, grid_on}
use Rattle.merge_laws.proofs.Sides.{IsFirstDart}
use Rattle.merge_laws.proofs.Joins.{on_or_not, turned_glued, less, links_less, join_law}
use Rattle.def_merge.specs.Joins.{IsWholeSide, AreGlued, IsJoinable, IsOnArc, IsNameOf, IsWithout, AreInOne, Leave}
use Rattle.def_merge.specs.Laws.{GrownLaw}
use Rattle.{def_mesh.specs.HalfEdges.HalfEdges, def_mesh.specs.HalfEdges.IsQuadManifold, cut_laws.specs.Grown.grown}

-- Whether something holds is decided.
abbrev pub OrNot : Type 0 → Type 0
OrNot P = P ⊎ (P → ⊥)

-- The least number below a bound of which P holds, or none.
pub least_or_none : {P : ℕ → Type 0} → ((k : ℕ) → OrNot (P k)) → (b : ℕ)
    → ((k : ℕ) × (k < b) × P k × ((x : ℕ) → x < k → P x → ⊥)) ⊎ ((x : ℕ) → x < b → P x → ⊥)
least_or_none each zero = inr (λ x l. absurd (omega arith))
least_or_none each (suc b) = elim (least_or_none each b) [
  | inl (k, l, is, before) ↦ inl (k, omega arith, is, before)
  | inr none ↦ elim (each b) [
    | inl is ↦ inl (b, omega arith, is, none)
    | inr never ↦ inr (λ x l is. elim (cases_eq x b) [ inl e ↦ never (rw e at is) | inr ne ↦ none x (omega arith) is ])
  ]
]

-- Whether P, which holds of numbers below a bound alone, holds of some number.
some_or_none : {P : ℕ → Type 0} → ((k : ℕ) → OrNot (P k)) → (b : ℕ) → ((k : ℕ) → P k → k < b) → OrNot ((k : ℕ) × P k)
some_or_none each b low = search (rules, least_or_none each b)

-- Two arcs are one, seen from one side or from both.
abbrev pub AreOneArc : (s t r u : ℕ) → Type 0
AreOneArc s t r u = ((s ≡ r) × (t ≡ u)) ⊎ ((s ≡ u) × (t ≡ r))

-- Each arc has a name.
pub name_there : (mesh : HalfEdges) (s t n : ℕ) → 0 < n → (name : ℕ) × IsNameOf mesh s t n name
name_there mesh s t n some = elim (least_or_none (on_or_not mesh s t n) (suc s)) [
  | inl (name, low, on, before) ↦ (name, record { on = on; least = λ d o. grind (arith, before d) })
  | inr none ↦ absurd (none s (omega arith) (0, some, inl refl))
]

pub one_name : (mesh : HalfEdges) (s t n a b : ℕ) → IsNameOf mesh s t n a → IsNameOf mesh s t n b → a ≡ b
one_name mesh s t n a b one two = omega (arith, one.least b two.on, two.least a one.on)

pub name_other : (mesh : HalfEdges) (s t n a : ℕ) → IsNameOf mesh s t n a → IsNameOf mesh t s n a
name_other mesh s t n a is = let o = is.on in record { on = search rules; least = λ d o. is.least d (search rules) }

module _ {mesh : HalfEdges} (laws : IsQuadManifold mesh) {cut : Cut} (full : IsCut mesh cut) where
  -- The other side is told by the first.
  pub one_far : {s t u n m : ℕ} → AreGlued mesh cut s t n → AreGlued mesh cut s u m → (t ≡ u) × (n ≡ m)
  one_far {s} {t} {u} {n} {m} one two =
      grind (arith, one_size laws full one.near two.near, one.across (n - 1) 0, two.across (m - 1) 0)

  one_near : {s t n r u m : ℕ} (k j : ℕ) → AreGlued mesh cut s t n → AreGlued mesh cut r u m → k < n → j < m
      → easts mesh s k ≡ easts mesh r j → (s ≡ r) × (t ≡ u) × (n ≡ m)
  one_near {s} {t} {n} {r} {u} {m} k j one two lk lj e =
      let start : s ≡ r = (one_place laws full k j one.near two.near lk lj e).0 in
      let far : (t ≡ u) × (n ≡ m) = one_far one (rw start two) in
      (start, far.0, far.1)

  -- Arcs with a dart in common are one.
  pub one_arc : {s t n r u m : ℕ} (d : ℕ) → AreGlued mesh cut s t n → AreGlued mesh cut r u m → IsOnArc mesh s t n d
      → IsOnArc mesh r u m d → AreOneArc s t r u × (n ≡ m)
  one_arc d one two (k, lk, inl e) (j, lj, inl f) = grind (arith, one_near k j one two lk lj)
  one_arc d one two (k, lk, inl e) (j, lj, inr f) = grind (arith, one_near k j one (turned_glued laws full two) lk lj)
  one_arc d one two (k, lk, inr e) (j, lj, inl f) = grind (arith, one_near k j (turned_glued laws full one) two lk lj)
  one_arc d one two (k, lk, inr e) (j, lj, inr f) =
      grind (arith, one_near k j (turned_glued laws full one) (turned_glued laws full two) lk lj)

module _ {mesh : HalfEdges} (laws : IsQuadManifold mesh) {cut : Cut} (full : IsCut mesh cut) {rest : Cut} {s t n : ℕ}
    (arc : IsJoinable mesh cut s t n) (without : IsWithout mesh cut rest s t n) where
  -- A cut dart that led into the arc arrived at one of its ends.
  over_end : (d : ℕ) → cut d ≡ true → IsOnArc mesh s t n (mesh.next d) → (mesh.prev s ≡ d) ⊎ (mesh.prev t ≡ d)
  over_end d on (k, l, inl e) = inl (grind (arith, first_place laws full arc.glued.near k l, laws.prev_next d))
  over_end d on (k, l, inr e) = inr (grind (arith, first_place laws full arc.glued.far k l, laws.prev_next d))

  -- A whole side that goes over no end of the arc was one before.
  side_before : {r m : ℕ} → IsWholeSide mesh rest r m → ((k : ℕ) → k < m
      → (mesh.prev s ≡ easts mesh r k) ⊎ (mesh.prev t ≡ easts mesh r k) → ⊥) → IsWholeSide mesh cut r m
  side_before {r} {m} side clear =
      let after = join_law mesh cut rest s t n laws full arc without in
      record {
        some = side.some;
        corner = search (rules, less laws without, laws.prev_low);
        inside = λ k l. false_from_ne_true _ (λ on.
            let x = easts mesh r k in
            let low = side_low laws after side k (omega arith) in
            let was = less laws without x low (side_on laws after side k (omega arith)) in
            elim (on_or_not mesh s t n (mesh.next x)) [
              | inl o ↦ clear k (omega arith) (over_end x was o)
              | inr none ↦
                  true≢false (sym on ∙ (sym (without.kept (mesh.next x) (laws.next_low x low) none) ∙ side.inside k l))
            ]);
        ends = λ k e.
            let low = side_low laws after side k (omega arith) in
            less laws without _ (laws.next_low (easts mesh r k) low) (side.ends k e);
      }

pub grown_law : GrownLaw
grown_law mesh cut rest s t n r u m laws full arc without new = elim (on_or_not mesh r u m (mesh.prev s)) [
  | inl o ↦ inr (inl o)
  | inr not_s ↦ elim (on_or_not mesh r u m (mesh.prev t)) [
    | inl o ↦ inr (inr o)
    | inr not_t ↦ inl (record {
      glued = record {
        near = side_before laws full arc without new.glued.near
            (λ k l. elim [ inl e ↦ not_s (k, l, inl e) | inr e ↦ not_t (k, l, inl e) ]);
        far = side_before laws full arc without new.glued.far
            (λ k l. elim [ inl e ↦ not_s (k, l, inr e) | inr e ↦ not_t (k, l, inr e) ]);
        across = new.glued.across;
      };
      apart = λ k. new.apart (k.0, links_less laws without r u k.0 new.glued.near.corner.0 k.1);
    })
  ]
]

-- Whether an arc is joinable is decided.

-- Whether an entry is this number.
found_or_not : (o : Option ℕ) (t : ℕ) → OrNot (o ≡ Some t)
found_or_not None t = inr (λ e. cc)
found_or_not (Some x) t = elim (cases_eq x t) [ inl e ↦ inl (ap Some e) | inr ne ↦ inr (λ e. ne (same_Some x t e)) ]

module _ {mesh : HalfEdges} (laws : IsQuadManifold mesh) {cut : Cut} (full : IsCut mesh cut) where
  -- Whether the n darts straight on from s are a whole side: what grows from s tells.
  whole_or_not : (s n : ℕ) → OrNot (IsWholeSide mesh cut s n)
  whole_or_not s n = elim corner_or_not [
    | inr never ↦ inr (λ side. never side.corner)
    | inl corner ↦
        let g = grow laws full s corner in
        let side : IsWholeSide mesh cut s g.0 = search rules in
        elim (cases_eq g.0 n) [ inl e ↦ inl (rw e at side) | inr ne ↦ inr (λ o. ne (one_size laws full side o)) ]
  ]
    where
      corner_or_not : OrNot (IsCorner mesh cut s)
      corner_or_not =
          grind (arith, cases_lt s mesh.count, cases_Bool (cut s), cases_Bool (cut (mesh.prev s)))

  -- No side is longer than a walk can be.
  size_low : {s n : ℕ} → IsWholeSide mesh cut s n → n < suc (suc mesh.count)
  size_low {s} {n} side = elim (cases_lt n (suc (suc mesh.count))) [
    | inl l ↦ l
    | inr h ↦ absurd (endless laws full s side.corner.0 side.corner.2 (λ i le. side.inside i (omega arith)))
  ]

  -- Whether a corner lies in the patch of a side.
  in_one_or_not : (s n t : ℕ) → IsWholeSide mesh cut s n → IsCorner mesh cut t → OrNot (AreInOne mesh cut s t)
  in_one_or_not s n t side corner =
      let (h, grid) = grid_on laws full side in
      let linked : (k a b : ℕ) → a < n → b < h → t ≡ spin mesh k (grown mesh s a b) → AreInOne mesh cut s t =
      λ k a b la lb is. linked_in laws full grid t (k, record { a = a; b = b; a_low = la; b_low = lb; is = is }) in
      let first : OrNot (IsFirstDart mesh n h (grown mesh s) t) = search rules in
      elim first [
        | inl f ↦ inl (search (rules, linked 0 0 0, linked 1 (n - 1) 0, linked 2 (n - 1) (h - 1), linked 3 0 (h - 1)))
        | inr none ↦ inr (λ a. none (corner_in laws full grid t
            (closed laws full grid s t a.0 a.1 (first_in laws full grid)) corner))
      ]

  -- Whether two whole sides are one arc, as far as m.
  across_or_not : (s t n m : ℕ) → m ≤ n → ((k j : ℕ) → k < m → k + suc j ≡ n → mesh.twin (easts mesh s k)
      ≡ Some (easts mesh t j))
      ⊎ (((k j : ℕ) → k + suc j ≡ n → mesh.twin (easts mesh s k) ≡ Some (easts mesh t j)) → ⊥)
  across_or_not s t n zero le = inl (λ k j l e. absurd (omega arith))
  across_or_not s t n (suc m) le =
      grind (arith, across_or_not s t n m, found_or_not (mesh.twin (easts mesh s m)) (easts mesh t (n - suc m)))

  joinable_or_not : (s t n : ℕ) → OrNot (IsJoinable mesh cut s t n)
  joinable_or_not s t n = elim (whole_or_not s n) [
    | inr never ↦ inr (λ arc. never arc.glued.near)
    | inl near ↦ elim (whole_or_not t n) [
      | inr never ↦ inr (λ arc. never arc.glued.far)
      | inl far ↦ elim (across_or_not s t n n (omega arith)) [
        | inr never ↦ inr (λ arc. never arc.glued.across)
        | inl across ↦ elim (in_one_or_not s n t near far.corner) [
          | inl one ↦ inr (λ arc. arc.apart one)
          | inr apart ↦ search rules
        ]
      ]
    ]
  ]

  -- Whether an arc goes over d that may leave.
  pub over_or_not : (may : Leave) (d : ℕ) → OrNot ((s : ℕ) × ((t : ℕ) × ((n : ℕ)
      × (IsJoinable mesh cut s t n × (may s t n ≡ true) × IsOnArc mesh s t n d))))
  over_or_not may d = some_or_none
      (λ s. some_or_none (λ t. some_or_none (at s t) (suc (suc mesh.count)) (λ n o. size_low o.0.glued.near))
      mesh.count (λ t o. o.1.0.glued.far.corner.0)) mesh.count (λ s o. o.1.1.0.glued.near.corner.0)
    where
      at : (s t n : ℕ) → OrNot (IsJoinable mesh cut s t n × (may s t n ≡ true) × IsOnArc mesh s t n d)
      at s t n = elim (joinable_or_not s t n) [
        | inr never ↦ inr (λ o. never o.0)
        | inl arc ↦ elim (cases_Bool (may s t n)) [
          | inr held ↦ inr (λ o. true≢false (sym o.1 ∙ held))
          | inl free ↦ elim (on_or_not mesh s t n d) [ inl on ↦ inl (arc, free, on) | inr off ↦ inr (λ o. off o.2) ]
        ]
      ]
