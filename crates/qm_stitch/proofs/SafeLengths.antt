-- Safe lengths double no edge, and lengths that double none keep the shape.
use Rattle.std.proofs.Common.{rules, ◌≡◌, ℕ, ◌*◌, ◌/◌, ◌<◌, Bool, List, length, sym, ◌∙◌, ap, subst, inl, inr, arith}
use Rattle.std.proofs.{lemmas.Bool.cases_lt, lemmas.List.get_or_past, Math.Nat.mul-div_cancel}
use Rattle.std.specs.Prelude.{◌↔◌, IsTrue}
use Rattle.def_layout.specs.{Arcs.long_at, Lengths.Lengths, Lengths.AreLengths, Layouts.Layout, Layouts.gluing_of}
use Rattle.def_remesh.specs.{NewPoints.lengths_in, NewPoints.multiple_of, Stitched.AreMultiples, Stitched.AreSafe}
use Rattle.def_remesh.specs.{Stitched.KeepsShapes}
use Rattle.embedding_laws.proofs.{Bounds.laid_of, Bounds.lies, OneLayout.embedding_law}
use Rattle.written_laws.proofs.Shape.{keeps_shape_law, multiple_law, three_law}
use Rattle.{def_layoutnet.specs.MeshLayouts.IsSomeLayout, def_written.specs.Edges.IsUndoubled}

module _ (layout : Layout) (list : List ℕ) (long : length list ≡ length layout.arcs) where
  pub safe_undoubled : IsSomeLayout layout → AreLengths (gluing_of layout) (lengths_in list)
      → AreSafe layout (lengths_in list) → IsUndoubled (gluing_of layout) (lengths_in list)
  safe_undoubled is len (inl most) = three_law _ _ (laid_of layout is) len most
  safe_undoubled is len (inr (by, some, same)) = subst (λ (x : Lengths). IsUndoubled (gluing_of layout) x)
      (search (rules, get_or_past)) (multiple_law is.faces _ _ _ (lies layout is) by some).1

  -- Where lengths are multiples of the old ones, the first tells how many times.
  pub times_found : AreLengths (gluing_of layout) (lengths_in list) → {result : Bool} {old by : ℕ} → 0 < length list
      → old ≡ long_at layout.arcs 0 → 0 < old → by ≡ lengths_in list 0 / old
      → IsTrue result ↔ ((arc : ℕ) → arc < length list → lengths_in list arc ≡ multiple_of by (long_at layout.arcs) arc)
      → IsTrue result ↔ AreMultiples layout (lengths_in list)
  times_found len {result} {old} {by} some old_is old_some by_is both = (
    λ on.
        let each = both.0 on in
        let positive : 0 < by = grind (arith, cases_lt 0 by, each 0 some, len.some 0) in
        (by, positive, λ arc low. each arc (omega arith)),
    λ (times, times_some, each).
        let first : lengths_in list 0 ≡ times * old = each 0 (omega arith) ∙ ap (λ n. times * n) (sym old_is) in
        let same : by ≡ times = by_is ∙ ap (λ n. n / old) first ∙ mul-div_cancel times old_some in
        both.1 (λ arc low. each arc (omega arith) ∙ ap (λ n. multiple_of n (long_at layout.arcs) arc) (sym same)),
  )

-- The new mesh has the shape of each mesh with the layout.
pub shapes_kept : (layout : Layout) (lengths : Lengths) → AreLengths (gluing_of layout) lengths
    → IsUndoubled (gluing_of layout) lengths → KeepsShapes layout lengths
shapes_kept layout lengths len undoubled faces marks mesh quads cut laid = keeps_shape_law faces _ _ _
    (embedding_law faces marks layout mesh quads cut laid) lengths len undoubled
