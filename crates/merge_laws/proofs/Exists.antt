-- Each full cut has a merged cut: each step leaves fewer darts.
use Rattle.std.proofs.Common.{◌≡◌, ◌⊎◌, ℕ, zero, suc, ◌<◌, ◌≤◌, Bool, true, cond, List, sym, ◌∙◌, ap, refl, inl, inr}
use Rattle.std.proofs.Common.{rules, arith}
use Rattle.{def_math.specs.Counts.count_below, sum_laws.proofs.Sums.count_below_lt, def_cut.specs.FullCut.is_on}
use Rattle.{mesh_laws.proofs.Chains.manifold_law, def_merge.specs.Beside.without}
use Rattle.def_mesh.specs.{Faces.Faces, Darts.darts, HalfEdges.IsQuadManifold}
use Rattle.def_mesh.specs.{HalfEdges.half_edges}
use Rattle.def_merge.specs.{Joins.IsJoinable, Joins.IsOnArc, Laws.MergedLaw, Merged.IsMergedBy, Merged.IsStep}
use Rattle.def_merge.specs.{Merged.Steps, Merged.MayLeave, Merged.IsMerged}
use Rattle.merge_laws.proofs.{Beside.left, Beside.without_long, Beside.IsCutOf, Beside.cut_of, Beside.cut_after}
use Rattle.merge_laws.proofs.{Joins.less, Joins.on_cut, Decided.over_or_not, Decided.least_or_none}

module _ (faces : Faces) (may : MayLeave) (laws : IsQuadManifold (half_edges faces)) where
  -- How many darts are marked.
  abbrev marked : (marks : List Bool) → ℕ
  marked marks = count_below (λ d. cond (is_on marks d) 1 0) (darts faces)

  -- Either an arc leaves, and fewer darts are marked, or none is joinable.
  step_or_end : (marks : List Bool) → IsCutOf faces marks
      → ((rest : List Bool) × IsStep faces may marks rest × (marked rest < marked marks)) ⊎ IsMerged faces may marks
  step_or_end marks cut = elim (least_or_none (over_or_not laws cut.full (may marks)) (darts faces)) [
    | inr none ↦ inr (λ s t n arc free. none s arc.glued.near.corner.0
        (s, (t, (n, (arc, free, (0, arc.glued.near.some, inl refl))))))
    | inl (d, low, (s, (t, (n, (arc, free, on)))), before) ↦
        let least : (r u m x : ℕ) → IsJoinable (half_edges faces) (is_on marks) r u m → may marks r u m ≡ true
        → IsOnArc (half_edges faces) r u m x → d ≤ x = λ r u m x other may_too o. grind (arith, before x) in
        let is = left faces marks s t n in
        let was = ap (λ (b : Bool). cond {A = ℕ} b 1 0) (on_cut laws cut.full arc.glued d on) in
        let zero_now = ap (λ (b : Bool). cond {A = ℕ} b 1 0) (is.gone d on) in
        let fewer : marked (without faces marks s t n) < marked marks =
        count_below_lt _ _ _ d low (search (rules, less laws is)) (omega arith) in
        inl (
          without faces marks s t n,
          record {
            near = s;
            far = t;
            size = n;
            first = record {
              joinable = arc;
              free = free;
              name = d;
              named = record { on = on; least = λ x o. least s t n x arc free o };
              first = least;
            };
            long = without_long _ _ s t n ∙ sym cut.long;
            without = is;
          },
          fewer,
        )
  ]

  merged_from : (fuel : ℕ) {marks now : List Bool} (i : ℕ) → Steps faces may marks now i → IsCutOf faces now
      → marked now < fuel → (rest : List Bool) × IsMergedBy faces may marks rest
  merged_from zero i steps cut le = absurd (omega arith)
  merged_from (suc fuel) {marks} {now} i steps cut le = elim (step_or_end now cut) [
    | inr none ↦ (now, record { steps = i; reached = steps; merged = none })
    | inl (rest, step, less) ↦
        merged_from fuel (suc i) (now, steps, step) (cut_after faces may laws cut step) (omega arith)
  ]

pub merged_law : MergedLaw
merged_law faces may marks manifold full =
    let laws = manifold_law faces manifold in
    merged_from faces may laws (suc (marked faces may laws marks)) 0 refl (cut_of faces manifold full) (omega arith)
