-- A full cut has at most one merged cut: each step is told by the cut before it.
use Rattle.std.proofs.Common.{◌≡◌, ℕ, zero, suc, ◌<◌, Bool, true, false, List, length, sym, ◌∙◌, ap, inl, inr}
use Rattle.std.proofs.Common.{rules, arith, not, ◌&&◌, map, replicate, subst}
use Rattle.std.proofs.lemmas.Bool.{cases_eq, and_from, false≢true, false_from_ne_true, true_from_ne_false}
use Rattle.std.proofs.{lemmas.List.ext_get_or, lemmas.List.length-map, lemmas.List.length-replicate}
use Rattle.std.proofs.{lemmas.List.FromFn.length-range_with_len, lemmas.List.FromFn.get_or-map-range_with_len}
use Rattle.{motion_laws.proofs.Marks.none_on, feature_laws.proofs.Conforming.mark_low}
use Rattle.def_mesh.specs.{Faces.Faces, Darts.darts, Darts.all_darts, Darts.from_of, Darts.prev_of, HalfEdges.HalfEdges}
use Rattle.def_mesh.specs.{HalfEdges.IsQuadManifold, HalfEdges.half_edges, Manifold.IsManifold}
use Rattle.def_mesh.specs.{Vertices.all_vertices, Vertices.vertex_count}
use Rattle.def_cut.specs.{Cuts.Cut, Cuts.IsCut, FullCut.is_on, FullCut.IsFullCut}
use Rattle.mesh_laws.proofs.Chains.{manifold_law, prev_of_low}
use Rattle.merge_laws.proofs.{Joins.on_or_not, Joins.less, Joins.other_without, Joins.join_law, Decided.one_arc}
use Rattle.def_merge.specs.Merged.{IsStep, Steps, IsMerged, IsMergedBy, MayLeave, all_may, IsMergedCut}
use Rattle.def_merge.specs.Beside.{is_on_arc, without, may_beside, MergedBesideLaw, HeldLaw}
use Rattle.def_merge.specs.{Joins.IsOnArc, Joins.IsWithout, Laws.OneMergedLaw}
use Rattle.def_feature.specs.{Beside.is_turn, Beside.IsCutBeside, Beside.is_kept, Beside.keeps_lines, Marks.is_break}
use Rattle.motion_laws.proofs.Among.{any_at, any_where, all_at, not_all, among_range, range_among}
use Rattle.feature_laws.proofs.{Breaks.in_fan, Breaks.from_fan, First.no_break, First.off}
use Rattle.face_laws.proofs.FullCuts.{full_cut_law}

-- What is left of a cut without an arc is told by the cut and the arc.
one_rest : {mesh : HalfEdges} {cut : Cut} (a b : List Bool) {s t n : ℕ} → length a ≡ mesh.count → length b ≡ mesh.count
    → IsWithout mesh cut (is_on a) s t n → IsWithout mesh cut (is_on b) s t n → a ≡ b
one_rest {mesh} a b {s} {t} {n} long other one two = ext_get_or false a b (long ∙ sym other) (λ d h.
    let l : d < mesh.count = omega arith in
    grind (arith, on_or_not mesh s t n d, one.gone d, two.gone d, one.kept d l, two.kept d l))

-- A cut of these faces, as steps keep it.
pub record IsCutOf (faces : Faces) (marks : List Bool) : Type 0 where
  pub long : length marks ≡ darts faces
  pub full : IsCut (half_edges faces) (is_on marks)

pub cut_of : (faces : Faces) {marks : List Bool} → IsManifold faces → IsFullCut faces marks → IsCutOf faces marks
cut_of faces {marks} manifold full =
    record { long = full.long; full = ((full_cut_law faces marks manifold).0 full).1 }

module _ (faces : Faces) (may : MayLeave) (laws : IsQuadManifold (half_edges faces)) where
  pub cut_after : {marks rest : List Bool} → IsCutOf faces marks → IsStep faces may marks rest → IsCutOf faces rest
  cut_after {marks} {rest} cut step = record {
    long = step.long ∙ cut.long;
    full = join_law _ _ _ _ _ _ laws cut.full step.first.joinable step.without;
  }

  one_step : (marks a b : List Bool) → IsCutOf faces marks → IsStep faces may marks a → IsStep faces may marks b → a ≡ b
  one_step marks a b cut one two =
      let f = one.first in
      let g = two.first in
      let names : one.first.name ≡ two.first.name = omega (
        arith,
        f.first _ _ _ _ g.joinable g.free g.named.on,
        g.first _ _ _ _ f.joinable f.free f.named.on,
      ) in
      let (arcs, size) = one_arc laws cut.full _ f.joinable.glued g.joinable.glued f.named.on (rw names g.named.on) in
      one_rest a b (one.long ∙ cut.long) (two.long ∙ cut.long) one.without (elim arcs [
        | inl p ↦ rw (p.0, p.1, size) two.without
        | inr p ↦ rw (p.0, p.1, size) (other_without two.without)
      ])

  pub cut_reached : {marks : List Bool} (a : List Bool) (i : ℕ) → IsCutOf faces marks → Steps faces may marks a i
      → IsCutOf faces a
  cut_reached a zero cut steps = rw (← steps) cut
  cut_reached {marks} a (suc i) cut steps = cut_after (cut_reached steps.0 i cut steps.1) steps.2

  -- What is left is a part of the cut.
  pub part_reached : (marks a : List Bool) (i : ℕ) → IsCutOf faces marks → Steps faces may marks a i → (d : ℕ)
      → d < darts faces → is_on a d ≡ true → is_on marks d ≡ true
  part_reached marks a zero cut steps d l on = ap (λ (x : List Bool). is_on x d) steps ∙ on
  part_reached marks a (suc i) cut steps d l on = part_reached marks steps.0 i cut steps.1 d l
      (less laws steps.2.without d l on)

  -- So many steps lead to one cut.
  same_reached : {marks : List Bool} (a b : List Bool) (i : ℕ) → IsCutOf faces marks → Steps faces may marks a i
      → Steps faces may marks b i → a ≡ b
  same_reached a b zero cut one two = sym one ∙ two
  same_reached {marks} a b (suc i) cut one two =
      let same = same_reached two.0 one.0 i cut two.1 one.1 in
      one_step one.0 a b (cut_reached one.0 i cut one.1) one.2 (rw same at two.2)

  -- From a merged cut no step leads on.
  no_more : (marks a b : List Bool) (i j : ℕ) → IsCutOf faces marks → Steps faces may marks a i → IsMerged faces may a
      → Steps faces may marks b j → i < j → ⊥
  no_more marks a b i zero cut one merged two l = omega arith
  no_more marks a b i (suc j) cut one merged two l = elim (cases_eq i j) [
    | inl e ↦
        let step = rw (same_reached two.0 a i cut (rw e two.1) one) at two.2 in
        merged step.near step.far step.size step.first.joinable step.first.free
    | inr ne ↦ no_more marks a two.0 i j cut one merged two.1 (omega arith)
  ]

pub one_merged_law : OneMergedLaw
one_merged_law faces may marks rest other manifold full one two =
    let laws = manifold_law _ manifold in
    let cut = cut_of faces manifold full in
    let after = cut_reached _ _ laws _ _ cut one.reached in (
      (search (rules, same_reached, no_more)),
      (full_cut_law _ _ manifold).1 (after.long, after.full),
    )

-- What is merged beside marked lines keeps them.

-- The test of an arc's darts is what it says.
pub on_arc : (mesh : HalfEdges) (s t n d : ℕ) → IsOnArc mesh s t n d → is_on_arc mesh s t n d ≡ true
on_arc mesh s t n d (k, l, is) = any_at _ k _ (among_range 0 n k (omega arith) (omega arith)) (search rules)

pub of_arc : (mesh : HalfEdges) (s t n d : ℕ) → is_on_arc mesh s t n d ≡ true → IsOnArc mesh s t n d
of_arc mesh s t n d y = search (rules, any_where, range_among)

-- A corner at v.
abbrev pub Turn : (faces : Faces) (cut : List Bool) (v : ℕ) → Type 0
Turn faces cut v = (e : ℕ) × (e < darts faces) × (from_of faces e ≡ v) × (is_on cut e ≡ true)
    × (is_on cut (prev_of e) ≡ true)

turn_there : (faces : Faces) (cut : List Bool) (v : ℕ) → is_turn faces cut v ≡ true → Turn faces cut v
turn_there faces cut v y = search (rules, any_where, from_fan)

turn_from : (faces : Faces) (cut : List Bool) (v : ℕ) → Turn faces cut v → is_turn faces cut v ≡ true
turn_from faces cut v (d, l, at, on, before) = any_at _ d _ (in_fan _ v d l at) (and_from _ _ on before)

-- A cut has each marked edge, and a corner where marked lines break.
pub record Keeps (faces : Faces) (marks cut : List Bool) : Type 0 where
  pub kept : (d : ℕ) → d < darts faces → is_on marks d ≡ true → is_on cut d ≡ true
  pub turned : (d : ℕ) → d < darts faces → is_break faces marks (from_of faces d) ≡ true
      → Turn faces cut (from_of faces d)

pub keeps_of : {faces : Faces} {marks cut : List Bool} → IsCutBeside faces marks cut → Keeps faces marks cut
keeps_of beside = record { kept = beside.kept; turned = λ d l y. turn_there _ _ _ (beside.turned d l y) }

-- That is what the test of a cut says.
pub keeps_from : (faces : Faces) (marks cut : List Bool) → Keeps faces marks cut → keeps_lines faces marks cut ≡ true
keeps_from faces marks cut keeps = true_from_ne_false _ (λ off.
    let (d, m, fails) = not_all (is_kept faces marks cut) (all_darts faces) off in
    let l : d < darts faces = omega (arith, (range_among 0 (darts faces) d m).1) in
    let turned : is_break faces marks (from_of faces d) ≡ true → is_turn faces cut (from_of faces d) ≡ true =
    λ y. turn_from faces cut (from_of faces d) (keeps.turned d l y) in
    grind (arith, keeps.kept d l, turned))

pub keeps_to : (faces : Faces) (marks cut : List Bool) → keeps_lines faces marks cut ≡ true → Keeps faces marks cut
keeps_to faces marks cut keeps = record {
  kept = λ d l on. grind (arith, at d l);
  turned = λ d l y. turn_there faces cut (from_of faces d) (grind (arith, at d l));
}
  where
    at : (d : ℕ) → d < darts faces → is_kept faces marks cut d ≡ true
    at d l = all_at _ d (all_darts faces) keeps (among_range 0 (darts faces) d (omega arith) (omega arith))

pub without_long : (faces : Faces) (cut : List Bool) (s t n : ℕ) → length (without faces cut s t n) ≡ darts faces
without_long faces cut s t n = length-map _ (λ x. is_on _ x && not _) ∙ length-range_with_len 0 (darts _)

-- What is left of a cut without an arc.
pub left : (faces : Faces) (cut : List Bool) (s t n : ℕ)
    → IsWithout (half_edges faces) (is_on cut) (is_on (without faces cut s t n)) s t n
left faces cut s t n = record {
  gone = λ d o. false_from_ne_true _ (λ on.
      let l : d < darts faces = omega (arith, mark_low _ d on, without_long faces cut s t n) in
      let off : is_on (without faces cut s t n) d ≡ false = search (rules, get_or-map-range_with_len, on_arc) in
      false≢true (sym off ∙ on));
  kept = λ d l none. search (rules, get_or-map-range_with_len, of_arc);
}

-- So many steps keep marked lines.
keeps_reached : (faces : Faces) → IsQuadManifold (half_edges faces) → (marks cut rest : List Bool) (i : ℕ)
    → IsCutOf faces cut → keeps_lines faces marks cut ≡ true → Steps faces (may_beside faces marks) cut rest i
    → keeps_lines faces marks rest ≡ true
keeps_reached faces laws marks cut rest zero is keeps steps = ap (keeps_lines faces marks) (sym steps) ∙ keeps
keeps_reached faces laws marks cut rest (suc i) is keeps (before, steps, step) =
    let long = (cut_reached faces (may_beside faces marks) laws before i is steps).long in
    let rest_is = one_rest rest (without faces before step.near step.far step.size) (step.long ∙ long)
    (without_long faces before step.near step.far step.size) step.without (left faces before _ _ _) in
    ap (keeps_lines faces marks) rest_is ∙ step.first.free

pub beside_reached : (faces : Faces) (marks cut rest : List Bool) (steps : ℕ) → IsManifold faces
    → IsCutBeside faces marks cut → Steps faces (may_beside faces marks) cut rest steps → IsCutBeside faces marks rest
beside_reached faces marks cut rest steps manifold beside reached =
    let laws = manifold_law faces manifold in
    let is = cut_of faces manifold beside.full in
    let after = cut_reached _ _ laws _ _ is reached in
    let keeps = keeps_to _ marks rest (keeps_reached _ laws _ _ _ _ is (keeps_from _ _ _ (keeps_of beside)) reached) in
    record {
      full = (full_cut_law faces rest manifold).1 (after.long, after.full);
      kept = keeps.kept;
      turned = λ d l y. turn_from _ _ _ (keeps.turned d l y);
    }

pub merged_beside_law : MergedBesideLaw
merged_beside_law faces marks cut rest manifold beside merged = search (rules, beside_reached)

-- An arc that may not leave a cut beside marked lines may not leave a part of it, nor from its other side.

-- An arc that may not leave may not leave a part of the cut.
pub held_law : HeldLaw
held_law faces marks cut rest s t n more free =
    let keeps = keeps_to faces marks (without faces rest s t n) free in
    keeps_from faces marks _ (record {
      kept = λ d l on. grows d l (keeps.kept d l on);
      turned = λ d l y.
          let (e, le, at, on, before) = keeps.turned d l y in
          (e, le, at, grows e le on, grows (prev_of e) (prev_of_low faces e le) before);
    })
  where
    grows : (d : ℕ) → d < darts faces → is_on (without faces rest s t n) d ≡ true
        → is_on (without faces cut s t n) d ≡ true
    grows d l on = search (rules, get_or-map-range_with_len)

-- From its other side an arc may leave as well.
pub turned_may : (faces : Faces) (marks cut : List Bool) (s t n : ℕ) → may_beside faces marks cut s t n ≡ true
    → may_beside faces marks cut t s n ≡ true
turned_may faces marks cut s t n y = search (rules, of_arc)

-- Beside no marked edge all joinable arcs may leave.

module _ (faces : Faces) where
  -- A full cut keeps no marks.
  pub none_beside : (cut : List Bool) → IsFullCut faces cut → IsCutBeside faces (replicate (darts faces) false) cut
  none_beside cut full = search (rules, off, no_break)

  pub none_broken : replicate (vertex_count faces) false
      ≡ map (is_break faces (replicate (darts faces) false)) (all_vertices faces)
  none_broken = search (
    rules,
    ext_get_or false,
    none_on,
    get_or-map-range_with_len,
    length-replicate,
    length-map,
    length-range_with_len,
    no_break,
  )

  -- Each arc may leave beside no marks.
  all_free : may_beside faces (replicate (darts faces) false) ≡ all_may
  all_free = λ i cut s t n. keeps_from faces (replicate (darts faces) false) (without faces cut s t n)
      (search (rules, off, no_break)) i

  -- What is merged beside no marks is merged, and the other way round.
  pub none_merged : (cut rest : List Bool)
      → IsMergedBy faces (may_beside faces (replicate (darts faces) false)) cut rest → IsMergedCut faces cut rest
  none_merged cut rest is = subst (λ (may : MayLeave). IsMergedBy faces may cut rest) all_free is

  pub merged_none : (cut rest : List Bool) → IsMergedCut faces cut rest
      → IsMergedBy faces (may_beside faces (replicate (darts faces) false)) cut rest
  merged_none cut rest is = subst (λ (may : MayLeave). IsMergedBy faces may cut rest) (sym all_free) is
