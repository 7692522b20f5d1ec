-- What is known of the layout of a mesh.
use Rattle.std.proofs.Common.{rules, ◌≡◌, ℕ, suc, ◌*◌, ◌^◌, ◌<◌, ◌≤◌, true, refl, sym, ◌∙◌, ap, arith}
use Rattle.{std.proofs.lemmas.Nat.mul-le, embedding_laws.proofs.OneLayout.embedding_law}
use Rattle.def_layout.specs.{Arcs.long_at, Surfaces.IsSurface, Lengths.AreLengths, Lengths.Lengths, Lengths.size}
use Rattle.def_layout.specs.{Lengths.wide, Lengths.high, Layouts.Layout, Layouts.gluing_of, Layouts.vertex_at}
use Rattle.def_layout.specs.{Cells.CellDart, Cells.IsDart, Gluings.Way, Gluings.south, Gluings.west, Gluings.Gluing}
use Rattle.def_written.specs.{Laws.LiesInMesh, Points.Point, Points.IsPoint, Numbers.vertex_number, Numbers.vertices}
use Rattle.def_written.specs.{NewFaces.dart_start, NewFaces.cells_before, NewFaces.face_count}
use Rattle.written_laws.proofs.{Shape.laid_law, Spacings.count_rises, Spacings.passing_le}
use Rattle.written_laws.proofs.{Spacings.passing_all, Rims.wide_some, Rims.high_some, EdgeNumbers.point_onto}
use Rattle.written_laws.proofs.{ModelCounts.point_dart, ModelCounts.faces_are, NewDarts.dart_number, NewDarts.dart_low}
use Rattle.written_laws.proofs.{NewDarts.dart_same, NewDarts.faces_long, OldModel.old_model}
use Rattle.sum_laws.proofs.Sums.{count_below_le, count_below_times}
use Rattle.{def_layoutnet.specs.MeshLayouts.IsSomeLayout, def_math.specs.Counts.count_below}

module _ (layout : Layout) (is : IsSomeLayout layout) where
  -- It lies in the mesh, at its old lengths.
  pub lies : LiesInMesh is.faces (gluing_of layout) (long_at layout.arcs) (vertex_at layout)
  lies = embedding_law is.faces is.marks layout is.mesh is.quads is.cut is.laid

  pub laid_of : IsSurface (gluing_of layout)
  laid_of = (laid_law is.faces (gluing_of layout) (long_at layout.arcs) (vertex_at layout) lies).0

  pub lengths_of : AreLengths (gluing_of layout) (long_at layout.arcs)
  lengths_of = lies.lengths

-- How large the numbers of a new mesh are.

module _ (l : Gluing) (x : Lengths) (laid : IsSurface l) (len : AreLengths l x) where
  -- Each point is left by a dart, so that there are no more points than darts.
  pub vertices_few : vertices l x ≤ 4 * face_count l x
  vertices_few =
      let below : (v : ℕ) (low : v < vertices l x) → dart_number l x (dart v low).0
      < 4 * face_count l x = λ v low. omega (arith, dart_low l x _ (dart v low).1, faces_long l x) in
      omega (
        arith,
        passing_all (vertices l x),
        passing_all (4 * face_count l x),
        passing_le (λ k. true) (λ k. true) _ _ (λ v low on. (dart_number l x (dart v low).0, below v low, refl))
            (λ v w a on b too same. sym (dart v a).2 ∙ ap (λ (d : CellDart). vertex_number l x (dart_start l x d))
            (dart_same l x _ _ (dart v a).1 (dart w b).1 same) ∙ (dart w b).2),
      )
    where
      dart : (v : ℕ) → v < vertices l x → (d : CellDart) × IsDart l x d × (vertex_number l x (dart_start l x d) ≡ v)
      dart v low =
          let a : (a : Point) × IsPoint l x a × (vertex_number l x a ≡ v) = point_onto l x v low in
          search (rules, point_dart)

  -- A patch has no more cells than there are.
  patch_few : (p : ℕ) → p < l.patches → wide l x p * high l x p ≤ face_count l x
  patch_few p low =
      let le : cells_before l x (suc p) ≤ cells_before l x l.patches = search (rules, count_rises) in
      omega (arith, le)

  pub side_few : (p : ℕ) (s : Way) → p < l.patches → size l x p s ≤ face_count l x
  side_few p s low =
      let few = patch_few p low in
      let w_some = wide_some l x laid.paved len p low in
      let h_some = high_some l x laid.paved len p low in
      let both : (wide l x p ≤ face_count l x) × (high l x p ≤ face_count l x) = search rules in search rules

-- Lengths of at most k make a layout no larger than k times the old lengths do.
module _ (l : Gluing) (old x : Lengths) (k : ℕ) (laid : IsSurface l) (len : AreLengths l old) (most : (a : ℕ)
    → x a ≤ k) where
  pub side_most : (p : ℕ) (s : Way) → p < l.patches → size l x p s ≤ k * size l old p s
  side_most p s low =
      let each : count_below (λ m. x (l.use_at p s m).arc) (l.many p s) ≤ count_below (λ m. k * old (l.use_at p s
      m).arc) (l.many p s) = count_below_le (λ m. x (l.use_at p s m).arc) (λ m. k * old (l.use_at p s m).arc) _ term in
      omega (arith, count_below_times k (λ m. old (l.use_at p s m).arc) (l.many p s))
    where
      term : (m : ℕ) → m < l.many p s → x (l.use_at p s m).arc ≤ k * old (l.use_at p s m).arc
      term m less =
          let some : 0 < old (l.use_at p s m).arc = len.some _
          (laid.paved.arc_low (record { patch = p; side = s; at = m }) (record { patch_low = low; low = less })) in
          omega (arith, mul-le k 1 k (old (l.use_at p s m).arc) (omega arith) some, most (l.use_at p s m).arc)

  pub cells_most : (n : ℕ) → n ≤ l.patches → cells_before l x n ≤ k * k * cells_before l old n
  cells_most n le =
      let each : cells_before l x n ≤ count_below (λ p. k * k * (wide l old p * high l old p)) n = count_below_le
      (λ p. wide l x p * high l x p) (λ p. k * k * (wide l old p * high l old p)) n (λ p low. term p (omega arith)) in
      omega (arith, count_below_times (k * k) (λ p. wide l old p * high l old p) n)
    where
      term : (p : ℕ) → p < l.patches → wide l x p * high l x p ≤ k * k * (wide l old p * high l old p)
      term p low =
          let most_of = mul-le (wide l x p) (high l x p) (k * wide l old p) (k * high l old p) (side_most p south low)
          (side_most p west low) in
          grind (arith, most_of)

-- The old lengths make as many cells as the mesh has faces.
pub old_faces : (layout : Layout) (is : IsSomeLayout layout)
    → face_count (gluing_of layout) (long_at layout.arcs) ≤ 2 ^ 21
old_faces layout is =
    let m = lies _ is in
    omega (arith, faces_are _ _ _ m.lengths _ _ (old_model _ m.manifold _ _ m.paved m.lengths _ _ _ m.sided m.quads))
