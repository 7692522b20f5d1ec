-- The sides of patches when an arc leaves: those before its ends go on along those behind it, and the others stay.
use Rattle.std.proofs.Common.{rules, ◌≡◌, ◌⊎◌, ℕ, zero, suc, ◌+◌, ◌-◌, ◌<◌, true, false, sym, ◌∙◌, ap, refl, inl, inr}
use Rattle.std.proofs.Common.{true≢false, arith, ◌≢◌, ◌≤◌, ◌↔◌, Bool, List, length}
use Rattle.{std.proofs.lemmas.Bool.cases_eq, std.proofs.lemmas.Bool.cases_order, def_feature.specs.Marks.is_break}
use Rattle.std.proofs.lemmas.List.{length-map, FromFn.length-range_with_len, FromFn.get_or-map-range_with_len}
use Rattle.{std.specs.BTreeSet.BTreeSet, std.specs.Prelude.OnOk, mesh_laws.proofs.Flood.all_below}
use Rattle.std.specs.declared.result.Result.{Result, TheVariants.Ok, TheVariants.Err}
use Rattle.def_mesh.specs.{HalfEdges.HalfEdges, HalfEdges.IsQuadManifold, HalfEdges.half_edges, Faces.Faces}
use Rattle.def_mesh.specs.{Darts.darts, Darts.from_of, Vertices.all_vertices, Vertices.vertex_count}
use Rattle.def_cut.specs.{Cuts.Cut, Cuts.IsCorner, Cuts.IsCut, Cuts.HasCross, FullCut.is_on, Steps.easts}
use Rattle.{cut_laws.proofs.Classes.linked_back, cut_laws.proofs.Classes.links_join, def_known.specs.Cutting.IsCutting}
use Rattle.def_merge.specs.Joins.{IsJoinable, IsOnArc, IsWholeSide, IsWithout, IsNameOf}
use Rattle.def_merge.specs.{Merged.IsStep, Merged.MayLeave, Beside.may_beside, Beside.IsEndFree, Beside.IsSpared}
use Rattle.merge_laws.proofs.Joins.{less, opened, still, on_cut, other_without, turned_arc, join_law}
use Rattle.merge_laws.proofs.Sides.{StandsOn, first_place, one_size, side_low}
use Rattle.merge_laws.proofs.{Decided.name_there, Decided.grown_law, Spared.spared_law, Spared.unmarked_from}
use Rattle.qm_merge.specs.{Walks.IsNextCorner, Waiting.IsNoted, Waiting.WaitStill, Waiting.mark_count, Links.IsRound}
use Rattle.qm_merge.specs.{declared.links.Round.Round, declared.seams.Place.Place, Beside.IsBeside, Beside.IsEndOpen}
use Rattle.qm_merge.{specs.Seams.IsSeam, proofs.Names.fewer_marks, proofs.Names.noted_over}
use Rattle.qm_merge.proofs.Rounds.{IsOneOf, around, closes, next_is_corner, one_next, opposite}
use Rattle.feature_laws.proofs.{Conforming.mark_low, Breaks.break_cross}

module _ {mesh : HalfEdges} (laws : IsQuadManifold mesh) {cut rest : Cut} (full : IsCut mesh cut) {s t n : ℕ}
    (arc : IsJoinable mesh cut s t n) (without : IsWithout mesh cut rest s t n) where
  -- A dart of the arc lies on one of its two sides.
  on_side : (d : ℕ) → IsOnArc mesh s t n d → (b : ℕ) × ((b ≡ s) ⊎ (b ≡ t)) × ((k : ℕ) × StandsOn mesh cut b n k d)
  on_side d (k, l, inl e) = (s, inl refl, (k, record { side = arc.glued.near; low = l; at = sym e }))
  on_side d (k, l, inr e) = (t, inr refl, (k, record { side = arc.glued.far; low = l; at = sym e }))

  -- A corner stays cut where no side of the arc begins.
  stays_cut : (c : ℕ) → IsCorner mesh cut c → (c ≡ s → ⊥) → (c ≡ t → ⊥) → rest c ≡ true
  stays_cut c corner not_s not_t = still laws without c corner.0 (λ o.
      let (b, side, (k, on)) = on_side c o in
      grind (arith, first_place laws full on.side k on.low)) corner.1

  -- Where a side goes on, it still does.
  goes_on : {c m : ℕ} → IsWholeSide mesh cut c m → (k : ℕ) → suc k < m → rest (mesh.next (easts mesh c k)) ≡ false
  goes_on {c} side k l = opened laws without (mesh.next (easts mesh c k)) (laws.next_low (easts mesh c k)
      (side_low laws full side k (omega (arith, l)))) (side.inside k l)

  -- A corner behind a dart of the arc is where one of its sides ends.
  on_end : (c : ℕ) → IsCorner mesh cut c → IsOnArc mesh s t n (mesh.prev c)
      → IsNextCorner mesh cut s c ⊎ IsNextCorner mesh cut t c
  on_end c corner o =
      let (b, side, (k, on)) = on_side (mesh.prev c) o in
      let next : IsNextCorner mesh cut b c = search rules in
      elim side [ inl e ↦ inl (rw e at next) | inr e ↦ inr (rw e at next) ]

  pub corner_was : (c : ℕ) → IsCorner mesh rest c → IsCorner mesh cut c
  corner_was c corner = search (rules, less laws without, laws.prev_low)

  -- A side stays that does not end where the arc begins.
  pub side_stays : (c m : ℕ) → IsCorner mesh rest c → IsWholeSide mesh cut c m → (IsNextCorner mesh cut c s → ⊥)
      → (IsNextCorner mesh cut c t → ⊥) → IsWholeSide mesh rest c m
  side_stays c m corner side not_s not_t = record {
    some = side.some;
    corner = corner;
    inside = goes_on side;
    ends = λ k e.
        let next : IsNextCorner mesh cut c (mesh.next (easts mesh c k)) = (k, rw e side, refl) in
        search (rules, stays_cut (mesh.next (easts mesh c k)) (next_is_corner laws full next));
  }

  -- The corners of the two patches.
  module _ {near far : Round} (ones : IsRound mesh cut s near) (others : IsRound mesh cut t far) where
    pub near_closes : IsNextCorner mesh cut near.fourth s
    near_closes = closes laws full ones

    pub near_corner : IsCorner mesh cut near.fourth
    near_corner = next_is_corner laws full ones.fourth

    -- Those of the near patch are none of the far one.
    foreign : (x : ℕ) → IsOneOf s near x → IsOneOf t far x → ⊥
    foreign x a b = arc.apart (links_join laws cut s x t (around laws full ones x a)
        (linked_back laws full t x arc.glued.far.corner.0 (around laws full others x b)))

    pub fourths_differ : near.fourth ≡ far.fourth → ⊥
    fourths_differ e = foreign near.fourth (inr (inr (inr refl))) (inr (inr (inr e)))

    -- The corner before the arc stays, and so does the one behind it.
    pub near_stays : IsCorner mesh rest near.fourth
    near_stays = (
      near_corner.0,
      stays_cut _ near_corner (λ e. opposite laws full ones (one_next laws full ones.third (rw (← e ∙ sym (second_is e))
          near_closes))) (λ e. foreign _ (inr (inr (inr refl))) (inl e)),
      still laws without _ (laws.prev_low near.fourth near_corner.0) (λ o. elim (on_end _ near_corner o) [
        | inl next ↦ opposite laws full ones
            (one_next laws full ones.third (rw (← one_next laws full next ones.second) near_closes))
        | inr next ↦ foreign _ (inr (inr (inr refl))) (inr (inl (one_next laws full next others.second)))
      ]) near_corner.2,
    )
      where
        -- A corner that is the next of itself would be all four.
        second_is : near.fourth ≡ s → near.second ≡ s
        second_is e = one_next laws full ones.second (rw e at near_closes)

    -- The side before s has a + 1 edges, and goes on along the second side of the far patch, of b + 1 edges.
    abbrev a : ℕ
    a = near_closes.0

    abbrev b : ℕ
    b = others.third.0

    over : easts mesh near.fourth (suc a) ≡ far.second
    over =
        let turn = others.second in
        grind (arith, one_size laws full turn.1 arc.glued.far, arc.glued.across 0 turn.0)

    along : (i j : ℕ) → i ≡ suc a + j → easts mesh near.fourth i ≡ easts mesh far.second j
    along i zero e = let here : i ≡ suc a = omega (arith, e) in cc (here, over)
    along zero (suc j) e = absurd (omega (arith, e))
    along (suc i) (suc j) e = cc (along i j (omega (arith, e)))

    inside : (k : ℕ) → suc k < suc a + suc b → rest (mesh.next (easts mesh near.fourth k)) ≡ false
    inside k l = elim (cases_order k a) [
      | inl e ↦ cc (e, near_closes.2, without.gone s (0, arc.glued.near.some, inl refl))
      | inr (inl less) ↦ goes_on near_closes.1 k (omega (arith, less))
      | inr (inr more) ↦ ap (λ z. rest (mesh.next z)) (along k (k - suc a) (omega (arith, more)))
          ∙ goes_on others.third.1 (k - suc a) (omega (arith, more, l))
    ]

    last : (k : ℕ) → suc k ≡ suc a + suc b → mesh.next (easts mesh near.fourth k) ≡ far.third
    last k e = cc (along k b (omega (arith, e)), others.third.2)

    shut : rest far.third ≡ true
    shut = stays_cut _ (next_is_corner laws full others.third) (λ e. foreign _ (inl e) (inr (inr (inl refl))))
        (opposite laws full others)

    -- The side before s, as it goes on.
    pub near_side : (m k : ℕ) → IsWholeSide mesh cut near.fourth m → IsWholeSide mesh cut far.second k
        → IsWholeSide mesh rest near.fourth (m + k) × (far.third ≡ mesh.next (easts mesh near.fourth (m + k - 1)))
    near_side m k one two =
        let left = one_size laws full near_closes.1 one in
        let right = one_size laws full others.third.1 two in search (rules, near_stays, inside, last, shut)

    -- The dart before the arc stands on it.
    pub near_over : (m : ℕ) × (k : ℕ) × StandsOn mesh rest near.fourth m k (mesh.prev s)
    near_over = (
      suc a + suc b,
      a,
      record {
        side = (near_side (suc a) (suc b) near_closes.1 others.third.1).0;
        low = omega arith;
        at = cc (laws.prev_next (easts mesh near.fourth a), near_closes.2);
      },
    )

-- What one arc less leaves joinable.

-- Two facts where a call went well.
pub both_ok : {T E P Q R : Type 0} (r : Result T E) → (P → Q → R) → OnOk r P → OnOk r Q → OnOk r R
both_ok (Ok x) f p q = f p q
both_ok (Err e) f p q = p

module _ {faces : Faces} {marks : List Bool} (rest : List Bool) (cutting : IsCutting faces marks) (place : Place)
    (is : IsSeam (half_edges faces) (is_on marks) place.start place.seam) (long : length rest ≡ length marks)
    (without : IsWithout (half_edges faces) (is_on marks) (is_on rest) place.start place.seam.far place.seam.long) where
  abbrev mesh : HalfEdges
  mesh = half_edges faces

  pub cutting_after : IsCutting faces rest
  cutting_after = assumption (long ∙ cutting.long, join_law _ _ _ _ _ _ cutting.laws cutting.full is.joinable without)

  -- What is left was there.
  pub less_on : (d : ℕ) → is_on rest d ≡ true → is_on marks d ≡ true
  less_on d on = less cutting.laws without d (omega (arith, mark_low rest d on, long, cutting.long)) on

  -- The step that the first of the arcs makes that may leave.
  pub step_taken : (may : MayLeave) → may marks place.start place.seam.far place.seam.long ≡ true
      → ((r u m name : ℕ) → IsJoinable mesh (is_on marks) r u m → may marks r u m ≡ true
      → IsNameOf mesh r u m name → place.seam.name ≤ name) → IsStep faces may marks rest
  step_taken may free least = record {
    near = place.start;
    far = place.seam.far;
    size = place.seam.long;
    first = record {
      joinable = is.joinable;
      free = free;
      name = place.seam.name;
      named = is.named;
      first = λ r u m d arc y on.
          let n = name_there mesh r u m arc.glued.near.some in
          omega (arith, least r u m n.0 arc y n.1, n.1.least d on);
    };
    long = long;
    without = without;
  }

  -- No arc has its name any more.
  pub name_gone : {s t n name : ℕ} → IsJoinable mesh (is_on rest) s t n
      → IsNameOf mesh s t n name → name ≢ place.seam.name
  name_gone {s} {t} {n} {name} arc named e = true≢false (sym (on_cut cutting.laws cutting_after.full arc.glued name
      named.on) ∙ (ap (is_on rest) e ∙ without.gone place.seam.name is.named.on))

  pub marks_fewer : mark_count rest + 1 ≤ mark_count marks
  marks_fewer = (fewer_marks marks rest long less_on).1 place.seam.name (on_cut cutting.laws cutting.full
      is.joinable.glued place.seam.name is.named.on) (without.gone place.seam.name is.named.on)

  -- What is joinable then was joinable before, or is noted anew.
  module _ {near far : Round} (ones : IsRound mesh (is_on marks) place.start near)
      (others : IsRound mesh (is_on marks) place.seam.far far) (old between new : BTreeSet ℕ)
      (starts one_starts new_starts : List ℕ) where
    abbrev IsNotedFrom : (c : ℕ) (names : BTreeSet ℕ) (table : List ℕ) → Type 0
    IsNotedFrom c names table = (t n name : ℕ) → IsJoinable mesh (is_on rest) c t n
        → IsNameOf mesh c t n name → IsNoted names table c t name

    abbrev AreKeptNotes : (names more : BTreeSet ℕ) (table next : List ℕ) → Type 0
    AreKeptNotes names more table next = (r u m name : ℕ) → IsJoinable mesh (is_on rest) r u m
        → IsNameOf mesh r u m name → IsNoted names table r u name → IsNoted more next r u name

    pub wait_still : IsNotedFrom near.fourth between one_starts → AreKeptNotes old between starts one_starts
        → IsNotedFrom far.fourth new new_starts → AreKeptNotes between new one_starts new_starts
        → WaitStill mesh (is_on marks) (is_on rest) old new starts new_starts
    wait_still near_noted kept far_noted still s t n name arc named was =
        let laws = cutting.laws in
        let near_end = near_over laws cutting.full is.joinable without ones others in
        let far_end = near_over laws cutting.full (turned_arc laws cutting.full is.joinable) (other_without without)
        others ones in
        elim (grown_law _ _ _ _ _ _ s t n laws cutting.full is.joinable without arc) [
          | inl before ↦ still s t n _ arc named (kept s t n name arc named (was before))
          | inr (inl o) ↦ still s t n _ arc named
              (noted_over laws cutting_after.full near_end.2 between one_starts near_noted arc o named)
          | inr (inr o) ↦ noted_over laws cutting_after.full far_end.2 _ _ far_noted arc o named
        ]

-- Whether an arc may leave, as the code tells it.

module _ {faces : Faces} {marks breaks cut : List Bool} (is : IsBeside faces marks breaks cut) where
  pub breaks_long : length breaks ≡ vertex_count faces
  breaks_long = ap length is.broken ∙ (length-map _ _ ∙ length-range_with_len 0 (vertex_count _))

  told : (d : ℕ) → d < darts faces → is_on breaks (from_of faces d) ≡ is_break faces marks (from_of faces d)
  told d l = ap (λ xs. is_on xs (from_of faces d)) is.broken ∙ get_or-map-range_with_len (is_break faces marks) 0
      (vertex_count faces) (from_of faces d) (from_of faces d) false (all_below faces d l) (omega arith)

  pub crossed_there : (d : ℕ) → d < darts faces → is_on breaks (from_of faces d) ≡ true → HasCross (half_edges faces) d
  crossed_there d l y = break_cross faces is.manifold marks is.lines d l (sym (told d l) ∙ y)

  end_free : (s t : ℕ) → s < darts faces → IsEndOpen faces breaks cut s t ↔ IsEndFree faces marks cut s t
  end_free s t l = (λ o y. o (told s l ∙ y), λ o y. o (sym (told s l) ∙ y))

  -- An arc may leave that is not marked and is open at both ends.
  pub may_told : {s t n : ℕ} → IsJoinable (half_edges faces) (is_on cut) s t n
      → (may_beside faces marks cut s t n ≡ true)
      ↔ ((is_on marks s ≡ false) × IsEndOpen faces breaks cut s t × IsEndOpen faces breaks cut t s)
  may_told {s} {t} {n} arc =
      let law = spared_law faces marks cut s t n is.manifold is.lines is.keeps arc in
      let near = end_free s t arc.glued.near.corner.0 in
      let far = end_free t s arc.glued.far.corner.0 in (
        λ y. let spared : IsSpared faces marks cut s t n = law.0 y in
            (spared.unmarked 0 arc.glued.near.some, near.1 spared.near, far.1 spared.far),
        λ o. law.1 (record {
          unmarked = unmarked_from faces is.manifold marks is.lines cut is.keeps s t n arc o.0;
          near = near.0 o.1;
          far = far.0 o.2;
        }),
      )
