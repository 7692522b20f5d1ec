-- What an edge's kind says of its dart that begins in an outer blossom.
use Rattle.std.proofs.Common.{rules, ◌≡◌, ◌≢◌, ℕ, ◌+◌, ◌*◌, ◌<◌, Bool, true, false, cond, eqb, length, pos, Option}
use Rattle.std.proofs.Common.{is_some, ◌⊎◌, refl, sym, ◌∙◌, ap, subst, inl, inr, arith, suc, ◌-◌, ◌/◌, ◌%◌, ◌≤◌, List}
use Rattle.std.proofs.Common.{get_or, Some, None}
use Rattle.std.proofs.lemmas.Bool.{cases_Bool, cond-true, cond-false, eq-eqb, cases_eq, cases_lt, ne_eqb}
use Rattle.std.{proofs.lemmas.Int.ints, proofs.Math.ListN.set, proofs.lemmas.Option.none-some, specs.Prelude.int_lt}
use Rattle.def_matching.specs.Matching.{IsSmallGraph, WeightedGraph, edge_at}
use Rattle.def_forest.specs.Forests.{Forest, weight_between, IsTight, bool_number, splits}
use Rattle.def_forest.specs.Tables.{edge_kind, kind_by, slack_of, outer_dart, dart_by, ForestTables, forest_of, up_at}
use Rattle.def_forest.specs.declared.kinds.EdgeKind.TheVariants.{Loose, Augment, Grow, Shrink}
use Rattle.def_forest.specs.{Darts.darts_of, Darts.far, Darts.other_dart, Valid.IsFeasible, Valid.IsMate}
use Rattle.def_forest.specs.{declared.kinds.Label.Label, declared.kinds.Label.TheVariants.Outer}
use Rattle.def_forest.specs.{declared.kinds.Label.TheVariants.Outside, declared.kinds.EdgeKind.EdgeKind, Ways.Reaches}
use Rattle.forest_laws.proofs.Bounds.{are_darts, near_odd, twin_even, dart_near, dart_far, dart_cost, twin_odd}
use Rattle.forest_laws.proofs.{Grows.tight_twin, Grows.far_twin, Grows.true_false, Grows.some_is, Grows.option_cases}
use Rattle.sum_laws.proofs.{Sums.count_below_none, Sums.count_below_one, Sums.count_below_same, Tests.same_test}
use Rattle.qm_forest.specs.Rounds.{IsSoundFor, IsLaminar, IsPairing, IsRound, entered, far_at, is_dart, matched_by}
use Rattle.qm_forest.specs.Rounds.{matches, near_at, waits_but, within}
use Rattle.qm_forest.proofs.Withins.{rising, in_line, in_where, through, where_in}
use Rattle.{qm_forest.proofs.RingRounds.paired_round, forest_laws.proofs.Walks.walk_fixed}

module _ {g : WeightedGraph} (is : IsSmallGraph g) {f : Forest} (feasible : IsFeasible (darts_of g) f) (e : ℕ)
    (low : e < length g.edges) where
  -- The outermost blossoms of the two ends.
  abbrev pub out_u : ℕ
  out_u = f.out (edge_at g e).u

  abbrev pub out_v : ℕ
  out_v = f.out (edge_at g e).v

  abbrev by_labels : EdgeKind
  by_labels = kind_by (f.label out_u) (f.label out_v) (f.mate out_u) (f.mate out_v) (eqb out_u out_v)

  -- An edge of a kind other than loose is tight, and its kind goes by the labels.
  tight_kind : {k : EdgeKind} → k ≢ Loose → edge_kind g f e ≡ k → IsTight (darts_of g) f (2 * e) × (by_labels ≡ k)
  tight_kind ne is_k = elim (cases_Bool (int_lt (pos 0) (slack_of g f e))) [
    | inl on ↦ absurd (ne (sym is_k ∙ cond-true _ _ _ on))
    | inr off ↦ (let load = feasible.darts (2 * e) (omega arith) in
        let same : weight_between f ((darts_of g).near (2 * e)) (far (darts_of g) (2 * e))
        ≡ weight_between f (edge_at g e).u (edge_at g e).v = cc (dart_near g e, dart_far g e) in
        let tight : IsTight (darts_of g) f (2 * e) =
        record { low = omega arith; exact = omega (arith, ints, load, same, dart_cost g e) } in
        (tight, sym (cond-false _ _ _ off) ∙ is_k))
  ]

  -- What a dart to a blossom outside the tree reaches: a matched one, or one that is not.
  abbrev Leads : (some : Bool) → Type 0
  Leads some = Reaches (darts_of g) f (outer_dart g f e)
      × (is_some (f.mate (f.out (far (darts_of g) (outer_dart g f e)))) ≡ some)

  leads : {some : Bool} (x : ℕ) {u v : ℕ} → (darts_of g).near x ≡ u → far (darts_of g) x ≡ v → outer_dart g f e ≡ x
      → IsTight (darts_of g) f x → f.label (f.out u) ≡ Outer → f.label (f.out v) ≡ Outside
      → is_some (f.mate (f.out v)) ≡ some → Leads some
  leads x near_is far_is d tight outer off m = search rules

  -- An edge by which the tree grows, or the matching, by whether the blossom outside the tree is matched.
  abbrev reaching : (some : Bool) → EdgeKind
  reaching some = cond some Grow Augment

  reach_labels : (some : Bool) (a b : Label) (ma mb : Option ℕ) (same : Bool) → kind_by a b ma mb same ≡ reaching some
      → ((a ≡ Outer) × (b ≡ Outside) × (is_some mb ≡ some)) ⊎ ((a ≡ Outside) × (b ≡ Outer) × (is_some ma ≡ some))
  reach_labels some a b ma mb same k = grind arith

  pub reaches : (some : Bool) → reaching some ≢ Loose → edge_kind g f e ≡ reaching some → Leads some
  reaches some ne k =
      let p = tight_kind ne k in
      elim (reach_labels some (f.label out_u) (f.label out_v) (f.mate out_u) (f.mate out_v) (eqb out_u out_v) p.1) [
        | inl w ↦ leads (2 * e) (dart_near g e) (dart_far g e) (ap (λ (l : Label). dart_by l e) w.0) p.0 w.0 w.1 w.2
        | inr w ↦ leads (2 * e + 1) (near_odd g (2 * e + 1) e refl) (ap (far (darts_of g)) (sym (twin_even (2 * e)
            (omega arith))) ∙ (far_twin (are_darts is.lawful) (2 * e) ∙ dart_near g e))
            (ap (λ (l : Label). dart_by l e) w.0) (subst (IsTight (darts_of g) f) (twin_even (2 * e) (omega arith))
            (tight_twin (are_darts is.lawful) p.0)) w.1 w.0 w.2
      ]

  pub grows : edge_kind g f e ≡ Grow → Leads true
  grows = reaches true (λ x. cc x)

  shrink_labels : (a b : Label) (ma mb : Option ℕ) (same : Bool) → kind_by a b ma mb same ≡ Shrink → (a ≡ Outer)
      × (b ≡ Outer) × (same ≡ false)
  shrink_labels a b ma mb same k = grind arith

  -- An edge that closes a cycle: it joins two outer blossoms.
  pub shrinks : edge_kind g f e ≡ Shrink → IsTight (darts_of g) f (2 * e)
      × (f.label (f.out ((darts_of g).near (2 * e))) ≡ Outer) × (f.label (f.out (far (darts_of g) (2 * e))) ≡ Outer)
      × (f.out ((darts_of g).near (2 * e)) ≢ f.out (far (darts_of g) (2 * e)))
  shrinks k =
      let p : IsTight (darts_of g) f (2 * e) × (by_labels ≡ Shrink) = tight_kind (λ x. absurd (cc x)) k in
      let w = shrink_labels (f.label out_u) (f.label out_v) (f.mate out_u) (f.mate out_v) (eqb out_u out_v) p.1 in
      rw (dart_near g e, dart_far g e) (p.0, w.0, w.1, λ s. true_false (eq-eqb out_u out_v s) w.2)

-- The outermost blossoms are matched as they are: each is met once.

module _ {t : ForestTables} (known : IsLaminar t) {g : WeightedGraph} (valid : IsSoundFor g t) where
  abbrev pub f : Forest
  f = forest_of t

  -- The ends of an edge.
  abbrev pub from : ℕ → ℕ
  from e = near_at t (2 * e)

  abbrev pub to : ℕ → ℕ
  to e = near_at t (2 * e + 1)

  abbrev pub out : ℕ → ℕ
  out = f.out

  low_in : (v : ℕ) → v < length t.hand → v < g.n
  low_in v l = rw valid.vertices at l

  -- A vertex lies in just its own outermost blossom.
  pub within_out : (w u : ℕ) → w < length t.hand → u < length t.hand → within t w (f.out u) ≡ eqb (f.out w) (f.out u)
  within_out w u lw lu = valid.valid.outermost.held u w (low_in u lu) (low_in w lw)

  own : (u : ℕ) → u < length t.hand → within t u (f.out u) ≡ true
  own u lu = within_out u u lu lu ∙ eq-eqb (f.out u) (f.out u) refl

  top_stays : (u : ℕ) → u < length t.hand → up_at t.up (f.out u) ≡ f.out u
  top_stays u lu = valid.valid.outermost.tops u (low_in u lu)

  top_rank : (u : ℕ) → u < length t.hand → get_or t.rank (f.out u) 0 ≤ length t.hand
  top_rank u lu = known.passed _ u lu (own u lu)

  -- What holds a vertex lies in its outermost blossom.
  around_in : (b u : ℕ) → u < length t.hand → within t u b ≡ true → within t b (f.out u) ≡ true
  around_in b u lu on =
      let wb = where_in (rising known) u b on in
      let wo = where_in (rising known) u _ (own u lu) in
      elim (in_line (rising known) u wb.0 wo.0 wb.1 wo.1) [
        | inl m ↦ in_where (rising known) b m.0 (top_rank u lu) m.1
        | inr m ↦ in_where (rising known) b 0 (top_rank u lu) (sym m.1 ∙ walk_fixed _ m.0 (top_stays u lu))
      ]

  -- Two outermost blossoms are a pair.
  tops_law : (u v b : ℕ) → u < length t.hand → v < length t.hand → f.out u ≢ f.out v
      → bool_number (splits (f.holds b) u v) + (waits_but t b (f.out u) u + waits_but t b (f.out v) v)
      ≡ bool_number (within t b (f.out u)) + bool_number (within t b (f.out v))
  tops_law u v b lu lv ne = search (rules, around_in)

  -- What an edge that matches says.
  pub record IsMateEdge (e : ℕ) : Type 0 where
    pub near_low : from e < length t.hand
    pub far_low : to e < length t.hand
    pub mate : f.mate (out (from e)) ≡ Some (2 * e)
    pub back : f.mate (out (to e)) ≡ Some (2 * e + 1)
    pub other : out (from e) ≢ out (to e)
    pub pairing : IsPairing t (out (from e)) (out (to e)) (2 * e)

  twin_is : (e : ℕ) → other_dart (2 * e) ≡ 2 * e + 1
  twin_is e = twin_even (2 * e) (omega arith)

  pub vertex_low : (d : ℕ) → d < 2 * length g.edges → near_at t d < length t.hand
  vertex_low d l = rw (valid.vertices, valid.ends d l) ((are_darts valid.small.lawful).near_low d l)

  used_at : (u : ℕ) → u < length t.hand → length t.hand ≤ f.out u → get_or t.parts (f.out u) 0 ≢ 0
  used_at u lu high none = true_false (own u lu) (search rules)

  pub mate_edge : (e : ℕ) → f.mate (out (from e)) ≡ Some (2 * e) → IsMateEdge e
  mate_edge e mate = record {
    near_low = nl;
    far_low = fl;
    mate = mate;
    back = ap (λ v. f.mate (f.out v)) (sym far_is) ∙ (m.back ∙ ap (λ (x : ℕ). Some x) (twin_is e));
    other = apart;
    pairing = record {
      dart = rw valid.darts m.tight.low;
      small = omega (arith, m.tight.low, valid.small.edges);
      low_x = valid.valid.outermost.out_low (from e) (low_in (from e) nl);
      low_y = valid.valid.outermost.out_low (to e) (low_in (to e) fl);
      other = apart;
      apart = λ s. apart (ap f.out (s ∙ far_same));
      near_low = nl;
      far_low = rw far_same fl;
      near_held = own (from e) nl;
      far_held = ap (λ v. within t v (out (to e))) far_same ∙ own (to e) fl;
      live_x = used_at (from e) nl;
      live_y = used_at (to e) fl;
      law = λ b l. rw far_same (tops_law (from e) (to e) b nl fl apart);
      tight = λ h valid'. (valid'.valid.matched (out (from e)) (2 * e) mate).tight;
    };
  }
    where
      m : IsMate (darts_of g) f (out (from e)) (2 * e)
      m = valid.valid.matched (out (from e)) (2 * e) mate

      nl : from e < length t.hand
      nl = vertex_low (2 * e) m.tight.low

      fl : to e < length t.hand
      fl = vertex_low (2 * e + 1) (omega (arith, m.tight.low))

      far_same : far_at t (2 * e) ≡ to e
      far_same = ap (near_at t) (twin_is e)

      far_is : far (darts_of g) (2 * e) ≡ to e
      far_is = sym (valid.ends _ ((are_darts valid.small.lawful).twin_low (2 * e) m.tight.low)) ∙ far_same

      apart : out (from e) ≢ out (to e)
      apart s = m.other (ap f.out far_is ∙ sym s)

  dart_true : (o : Option ℕ) (d : ℕ) → is_dart o d ≡ true → o ≡ Some d
  dart_true o d on = grind arith

  pub dart_is : {o : Option ℕ} (d : ℕ) → o ≡ Some d → is_dart o d ≡ true
  dart_is d e = ap (λ (x : Option ℕ). is_dart x d) e ∙ eq-eqb d d refl

  pub matches_is : (e : ℕ) → matches t e ≡ true → IsMateEdge e
  matches_is e on = mate_edge e (dart_true _ (2 * e) on)

  abbrev term : ℕ → ℕ → ℕ
  term b e = cond (matches t e) (bool_number (within t b (out (from e))) + bool_number (within t b (out (to e)))) 0

  -- An edge that matches the outermost blossom of a vertex is that of its mate.
  term_none : (w e : ℕ) → w < length t.hand → ((d : ℕ) → f.mate (f.out w) ≡ Some d → e ≢ d / 2) → term w e ≡ 0
  term_none w e lw other = elim (cases_Bool (matches t e)) [
    | inr off ↦ cond-false _ _ _ off
    | inl on ↦ (let m = matches_is e on in rw (
      on,
      within_out w (from e) lw m.near_low,
      within_out w (to e) lw m.far_low,
      ne_eqb (f.out w) (out (from e)) (λ s. other (2 * e) (ap f.mate s ∙ m.mate) (omega arith)),
      ne_eqb (f.out w) (out (to e)) (λ s. other (2 * e + 1) (ap f.mate s ∙ m.back) (omega arith)),
    ))
  ]

  term_one : (w d : ℕ) → w < length t.hand → f.mate (f.out w) ≡ Some d → (term w (d / 2) ≡ 1) × (d / 2 < length g.edges)
  term_one w d lw mate =
      let e = d / 2 in
      let m = valid.valid.matched (f.out w) d mate in
      let near_is = ap f.out (valid.ends d m.tight.low) ∙ m.here in
      elim (cases_eq (d % 2) 0) [
        | inl z ↦ (let s : 2 * e ≡ d = omega (arith, z) in
            let here = ap (λ k. f.out (near_at t k)) s ∙ near_is in (
              value e (dart_is _ (ap f.mate here ∙ (mate ∙ ap (λ (k : ℕ). Some k) (sym s)))) (inl (sym here)),
              omega (arith, m.tight.low),
            ))
        | inr nz ↦ (let s : 2 * e ≡ d - 1 = omega (arith, nz) in
            let up : 2 * e + 1 ≡ d = omega (arith, nz) in
            let twin = s ∙ sym (twin_odd d nz) in
            let low = (are_darts valid.small.lawful).twin_low d m.tight.low in
            let far_is = ap (near_at t) twin ∙ valid.ends (other_dart d) low in (
              value e (dart_is _ (ap (λ v. f.mate (f.out v)) far_is ∙ (m.back ∙ ap (λ (k : ℕ). Some k) (sym twin))))
                  (inr (sym (ap (λ k. f.out (near_at t k)) up ∙ near_is))),
              omega (arith, m.tight.low),
            ))
      ]
    where
      value : (e : ℕ) → matches t e ≡ true → (f.out w ≡ out (from e)) ⊎ (f.out w ≡ out (to e)) → term w e ≡ 1
      value e on side = search (rules, matches_is, within_out)

  others_none : (w d : ℕ) → w < length t.hand → f.mate (f.out w) ≡ Some d → (k : ℕ) → k ≢ d / 2 → term w k ≡ 0
  others_none w d lw mate k ne = term_none w k lw (λ x e at. ne (at ∙ ap (λ z. z / 2) (some_is x d (sym e ∙ mate))))

  -- A vertex is met once at most, and once where its blossom is matched.
  pub due_low : (w edges : ℕ) → w < length t.hand → matched_by t edges w ≤ 1
  due_low w edges lw = elim (option_cases _) [
    | inl none ↦ (let none = count_below_none _ edges (λ k l. term_none w k lw
        (λ d s. absurd (none-some d (sym none ∙ s)))) in
        omega arith)
    | inr s ↦ elim (cases_lt (s.0 / 2) edges) [
      | inl l ↦ (let one = count_below_one _ edges _ l (λ k lk. others_none w s.0 lw s.1 k) in
          omega (arith, (term_one w s.0 lw s.1).0))
      | inr h ↦ search (rules, count_below_none, others_none)
    ]
  ]

  pub due_one : (w : ℕ) {edges : ℕ} → w < length t.hand → edges ≡ length g.edges → f.mate (f.out w) ≢ None
      → matched_by t edges w ≡ 1
  due_one w {edges} lw all matched = elim (option_cases _) [
    | inl none ↦ absurd (matched none)
    | inr s ↦ count_below_one _ edges _ (rw all (term_one w s.0 lw s.1).1)
        (λ k lk. others_none w s.0 lw s.1 k) ∙ (term_one w s.0 lw s.1).0
  ]

  -- A blossom is met as its vertices are.
  pub due_same : (b w edges : ℕ) → w < length t.hand → within t w b ≡ true → matched_by t edges b ≡ matched_by t edges w
  due_same b w edges lw held =
      let same : (u : ℕ) → u < length t.hand → within t b (f.out u) ≡ within t w (f.out u) = λ u lu. same_test _ _
      (λ on. through (rising known) w b (f.out u) (top_rank u lu) held on) (search (rules, around_in)) in
      count_below_same _ _ edges (search (rules, matches_is))

  -- One edge more.
  pub edge_more : {marks : List Bool} {marks2 : List Bool} {left : List (Option ℕ)} {left2 : List (Option ℕ)} (e j : ℕ)
      → j ≡ e + 1 → length t.near ≡ 2 * length marks → length left ≡ length t.up → f.mate (out (from e)) ≡ Some (2 * e)
      → marks2 ≡ set marks (2 * e / 2) true → left2
      ≡ entered (length t.hand) (entered (length t.hand) left (out (from e)) (from e)) (out (to e)) (far_at t (2 * e))
      → IsRound t marks left (λ b. 0) (matched_by t e) → IsRound t marks2 left2 (λ b. 0) (matched_by t j)
  edge_more {marks} {left} e j j_is size_marks size_left mate marks_is left_is round =
      let step : (b : ℕ) → matched_by t j b ≡ matched_by t e b + (bool_number (within t b (out (from e)))
      + bool_number (within t b (out (to e)))) = λ b. (let o : j ≡ suc e = omega arith in
      grind (arith, o, dart_is _ mate)) in
      rw (marks_is, left_is) (paired_round known valid _ _ _ _ _ _ _ size_marks size_left (search (
        rules,
        step,
        round.each,
        round.entry,
        round.tight,
        due_low,
      )) (mate_edge e mate).pairing)

  pub edge_same : {marks : List Bool} {left : List (Option ℕ)} (e j : ℕ) → j ≡ e + 1 → f.mate (out (from e))
      ≢ Some (2 * e) → IsRound t marks left (λ b. 0) (matched_by t e) → IsRound t marks left (λ b. 0) (matched_by t j)
  edge_same e j j_is off round =
      let step : (b : ℕ) → matched_by t j b ≡ matched_by t e b = λ b. (let o : j ≡ suc e = omega arith in
      search (rules, dart_true)) in
      grind (arith, round, step)
