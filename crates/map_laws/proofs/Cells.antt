-- The new faces patch by patch: those of a patch stand one after the other, row by row.
use Rattle.std.proofs.Common.{rules, ◌≡◌, ℕ, zero, suc, ◌+◌, ◌*◌, ◌/◌, ◌%◌, ◌<◌, List, [], ◌∷◌, ◌++◌, map, refl, sym}
use Rattle.std.proofs.Common.{◌∙◌, ap, ap₂, append_assoc, append-nil, arith, ◌-◌}
use Rattle.std.proofs.{lemmas.Grind.flat_map-append, lemmas.List.FromFn.map-range_with_len_more}
use Rattle.std.specs.{List.flat_map, List.range_with_len}
use Rattle.def_layout.specs.{Lengths.Lengths, Lengths.wide, Lengths.high, Cells.CellDart, Cells.dart, Gluings.south}
use Rattle.def_layout.specs.{Gluings.Gluing}
use Rattle.def_written.specs.{NewFaces.cell_in, NewFaces.cells_before, NewFaces.dart_of, NewFaces.patch_of}
use Rattle.def_written.specs.{Numbers.before_arc, Numbers.before_patch, Numbers.vertices, Points.IsPoint}
use Rattle.written_laws.proofs.{Spacings.run_place, Spacings.run_here, Spacings.IsInRun}
use Rattle.def_remesh.specs.NewPoints.{along_arcs, inside_patches, point_at}
use Rattle.{list_laws.proofs.Filters.map_range_same, def_math.specs.Runs.run_at}

-- Numbers up to a sum are those up to its first term, and as many behind them as the other.
range_join : {X : Type 0} (item : ℕ → X) (a n : ℕ) → map item (range_with_len 0 (a + n))
    ≡ map item (range_with_len 0 a) ++ map (λ k. item (a + k)) (range_with_len 0 n)
range_join item a zero = search rules
range_join item a (suc n) =
    let e : a + suc n ≡ a + n + 1 = omega arith in
    let one : n + 1 ≡ suc n = omega arith in
    cc (
      map-range_with_len_more item 0 (a + n) (a + n) (omega arith),
      range_join item a n,
      append_assoc (map item (range_with_len 0 a)) (map (λ k. item (a + k)) (range_with_len 0 n)) (item (a + n) ∷ []),
      map-range_with_len_more (λ k. item (a + k)) 0 n n (omega arith),
    )

module _ (l : Gluing) (x : Lengths) where
  -- Cell k of a patch, counted row by row, by its south side.
  abbrev pub cell_dart : (p k : ℕ) → CellDart
  cell_dart p k = dart p (k % wide l x p) (k / wide l x p) south

  -- Its number is that of the cells before the patch, and k.
  pub cell_is : (p k : ℕ) → p < l.patches → k < wide l x p * high l x p → dart_of l x (cells_before l x p + k) south
      ≡ cell_dart p k
  cell_is p k low less = λ t. record {
    patch = patch t;
    i = place t % wide l x (patch t);
    j = place t / wide l x (patch t);
    way = south;
  }
    where
      patch : patch_of l x (cells_before l x p + k) ≡ p
      patch = run_place (λ q. wide l x q * high l x q) _ p k low less

      place : cell_in l x (cells_before l x p + k) ≡ k
      place = omega (arith, ap (cells_before l x) patch)

  -- What is put together cell by cell is put together patch by patch.
  pub by_patches : {X : Type 0} (item : CellDart → X) (text : X → List ℕ) (n : ℕ) → n < l.patches + 1
      → flat_map (λ p. flat_map text (map (λ k. item (cell_dart p k)) (range_with_len 0 (wide l x p * high l x p))))
      (map (λ p. p) (range_with_len 0 n))
      ≡ flat_map text (map (λ f. item (dart_of l x f south)) (range_with_len 0 (cells_before l x n)))
  by_patches item text zero low = refl
  by_patches item text (suc n) low =
      let whole : ℕ
      → List ℕ = λ p. flat_map text (map (λ k. item (cell_dart p k)) (range_with_len 0 (wide l x p * high l x p))) in
      let one : n + 1 ≡ suc n = omega arith in
      let w : ℕ = wide l x n * high l x n in
      ap (λ m. flat_map whole (map (λ p. p) (range_with_len 0 m))) (sym one) ∙ ap (flat_map whole)
      (map-range_with_len_more _ 0 n n (omega arith)) ∙ flat_map-append whole _ (n ∷ [])
      ∙ ap₂ (λ (xs ys : List ℕ). xs ++ ys) (by_patches item text n (omega arith)) (append-nil _ ∙ ap (flat_map text)
      (here (omega arith))) ∙ sym (flat_map-append text _ (map (λ k. item (dart_of l x (cells_before l x n + k) south))
      (range_with_len 0 w))) ∙ ap (flat_map text) (sym (range_join _ (cells_before l x n) w))
    where
      here : n < l.patches → map (λ k. item (cell_dart n k)) (range_with_len 0 (wide l x n * high l x n))
          ≡ map (λ k. item (dart_of l x (cells_before l x n + k) south)) (range_with_len 0 (wide l x n * high l x n))
      here n_low = search (rules, map_range_same, cell_is)

-- The point with a number.

module _ (l : Gluing) (new : Lengths) where
  along_is : (t : ℕ) → t < before_arc new l.arcs → IsPoint l new (along_arcs l new t)
  along_is t low = let here = run_here _ _ t low in (here.low, omega arith, omega arith)

  inside_is : (t : ℕ) → t < before_patch l new l.patches → IsPoint l new (inside_patches l new t)
  inside_is t low =
      let p = run_at (before_patch l new) l.patches t in
      let here : IsInRun (λ q. (wide l new q - 1) * (high l new q - 1)) l.patches t p (t - before_patch l new p) =
      run_here (λ q. (wide l new q - 1) * (high l new q - 1)) _ t low in
      search rules

  -- Each number below that of the vertices is that of a point.
  pub is_point : (v : ℕ) → v < vertices l new → IsPoint l new (point_at l new v)
  is_point v low = search (rules, along_is, inside_is)
