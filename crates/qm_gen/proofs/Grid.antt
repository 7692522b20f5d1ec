-- The cells name points of the grid.
use Rattle.std.proofs.Common.{◌≡◌, ◌<◌, ◌≤◌, ◌+◌, ◌*◌, ◌^◌, ◌&&◌, ℕ, zero, suc, Bool, true, false, IsTrue, List, []}
use Rattle.std.proofs.Common.{◌∷◌, length, map, filter, cond, refl, ap, sym, ◌∙◌, subst, arith, length-append}
use Rattle.std.proofs.{lemmas.Bool.and_from, lemmas.Bool.le-leb, lemmas.Bool.lt-ltb, lemmas.List.length-map}
use Rattle.std.proofs.{lemmas.List.Folds.list_all-append, lemmas.List.FromFn.length-map-range_with_len}
use Rattle.std.proofs.{lemmas.List.FromFn.length-range_with_len, Math.Nat.mul-le-mul_right, Math.Nat.suc-mul}
use Rattle.std.specs.{Prelude.nat_le, Prelude.nat_lt, List.flat_map, List.list_all, List.range_with_len}
use Rattle.def_gen.specs.Steps.{cell, cells, column_height, grid_points, whole_point, point_number, row_cells}
use Rattle.def_gen.specs.Steps.{row_points}
use Rattle.def_mesh.specs.{Faces.Faces, Vertices.is_used}
use Rattle.def_text.specs.{FaceSet.FaceSet, FaceSet.IsSoup, Text.face_set, Text.numbers_to, Text.position_of}
use Rattle.def_text.specs.{Text.used_to, Text.line_vertex, Types.Positions}
use Rattle.qm_obj.proofs.SoupLemmas.{length-numbers_to, numbers_rise}

-- How many points there are.
rows_long : (n y k : ℕ) → length (flat_map (row_points n) (range_with_len y k)) ≡ k * (3 * n + 1)
rows_long n y zero = omega arith
rows_long n y (suc k) =
    let first : length (row_points n y) ≡ 3 * n + 1 = length-map-range_with_len (λ x. whole_point x y) 0 (3 * n + 1) in
    let rest = rows_long n (y + 1) k in
    let product : suc k * (3 * n + 1) ≡ k * (3 * n + 1) + (3 * n + 1) = suc-mul k (3 * n + 1) in
    omega (
      arith,
      length-append (row_points n y) (flat_map (row_points n) (range_with_len (y + 1) k)),
      first,
      rest,
      product,
    )

pub few_points : (n : ℕ) → n ≤ 10000 → length (grid_points n) ≤ 2 ^ 21
few_points n few = omega (arith, rows_long n 0 9)

-- A number of the grid.
abbrev fits : (n : ℕ) → ℕ → Bool
fits n v = nat_lt 0 v && nat_le v (9 * (3 * n + 1))

fits_in : (n x y : ℕ) → x ≤ 3 * n → y ≤ 8 → fits n (point_number n x y) ≡ true
fits_in n x y low flat =
    let row : y * (3 * n + 1) ≤ 8 * (3 * n + 1) = mul-le-mul_right (3 * n + 1) flat in
    and_from _ _ (lt-ltb 0 (point_number n x y) (omega arith)) (le-leb (point_number n x y) (9 * (3 * n + 1))
    (omega arith))

cell_fits : (n column row : ℕ) → column < 3 * n → row < 8 → list_all (fits n) (cell n column row) ≡ true
cell_fits n column row low flat = and_from _ _ (fits_in n column row (omega arith) (omega arith))
    (and_from _ _ (fits_in n (column + 1) row (omega arith) (omega arith))
    (and_from _ _ (fits_in n (column + 1) (row + 1) (omega arith) (omega arith))
    (and_from _ _ (fits_in n column (row + 1) (omega arith) (omega arith)) refl)))

row_fits : (n row a k : ℕ) → a + k ≤ 3 * n → row < 8 → list_all (list_all (fits n))
    (map (λ column. cell n column row) (filter (λ column. nat_lt row (column_height n column)) (range_with_len a k)))
    ≡ true
row_fits n row a zero low flat = refl
row_fits n row a (suc k) low flat =
    by_test (nat_lt row (column_height n a)) (row_fits n row (a + 1) k (omega arith) flat)
  where
    by_test : (t : Bool) → list_all (list_all (fits n))
        (map (λ column. cell n column row) (filter (λ column. nat_lt row (column_height n column))
        (range_with_len (a + 1) k))) ≡ true
        → list_all (list_all (fits n)) (map (λ column. cell n column row)
        (cond t (a ∷ filter (λ column. nat_lt row (column_height n column)) (range_with_len (a + 1) k))
        (filter (λ column. nat_lt row (column_height n column)) (range_with_len (a + 1) k)))) ≡ true
    by_test true rest = and_from _ _ (cell_fits n a row (omega arith) flat) rest
    by_test false rest = rest

rows_fit : (n y k : ℕ) → y + k ≤ 8 → list_all (list_all (fits n)) (flat_map (row_cells n) (range_with_len y k)) ≡ true
rows_fit n y zero flat = refl
rows_fit n y (suc k) flat =
    list_all-append (list_all (fits n)) (row_cells n y) (flat_map (row_cells n) (range_with_len (y + 1) k))
    ∙ and_from _ _ (row_fits n y 0 (3 * n) (omega arith) (omega arith)) (rows_fit n (y + 1) k (omega arith))

pub are_known : (n : ℕ) → n ≤ 10000 → (points : Positions) (faces : Faces) → points ≡ grid_points n → faces ≡ cells n
    → IsTrue (list_all (list_all (λ corner. nat_lt 0 corner && nat_le corner (length points))) faces)
are_known n few points faces is all =
    let long : length points ≡ 9 * (3 * n + 1) = ap length is ∙ rows_long n 0 9 in
    subst (λ (k : ℕ). list_all (list_all (λ corner. nat_lt 0 corner && nat_le corner k)) faces ≡ true) (sym long)
    (ap (list_all (list_all (fits n))) all ∙ rows_fit n 0 8 (omega arith))

filter_few : (p : ℕ → Bool) (xs : List ℕ) → length (filter p xs) ≤ length xs
filter_few p [] = omega arith
filter_few p (x ∷ xs) = by_test (p x) (filter_few p xs)
  where
    by_test : (t : Bool) → length (filter p xs) ≤ length xs → length (cond t (x ∷ filter p xs) (filter p xs))
        ≤ length (x ∷ xs)
    by_test true less = omega arith
    by_test false less = omega arith

-- The points that cells use are not more.
pub few_used : (n : ℕ) → n ≤ 10000 → (soup : FaceSet) → (points : Positions) (faces : Faces) → points ≡ grid_points n
    → soup ≡ face_set points faces → length soup.pos ≤ 2 ^ 21
few_used n few soup points faces is used = omega (
  arith,
  ap (λ (s : FaceSet). length s.pos) used,
  length-map (used_to faces (length points)) (position_of points),
  filter_few (is_used faces) (numbers_to (length points)),
  length-numbers_to (length points),
  ap length is,
  few_points n few,
)

-- How many cells there are.
row_few : (n row : ℕ) → length (row_cells n row) ≤ 3 * n
row_few n row = omega (
  arith,
  length-map (filter (λ column. nat_lt row (column_height n column)) (range_with_len 0 (3 * n)))
      (λ column. cell n column row),
  filter_few (λ column. nat_lt row (column_height n column)) (range_with_len 0 (3 * n)),
  length-range_with_len 0 (3 * n),
)

rows_few : (n y k : ℕ) → length (flat_map (row_cells n) (range_with_len y k)) ≤ k * (3 * n)
rows_few n y zero = omega arith
rows_few n y (suc k) =
    let product : suc k * (3 * n) ≡ k * (3 * n) + 3 * n = suc-mul k (3 * n) in
    omega (
      arith,
      length-append (row_cells n y) (flat_map (row_cells n) (range_with_len (y + 1) k)),
      row_few n y,
      rows_few n (y + 1) k,
      product,
    )

pub few_faces : (n : ℕ) → n ≤ 10000 → (soup : FaceSet) → (points : Positions) (faces : Faces) → faces ≡ cells n
    → soup ≡ face_set points faces → length soup.faces ≤ 2 ^ 20
few_faces n few soup points faces is used = omega (
  arith,
  ap (λ (s : FaceSet). length s.faces) used,
  length-map faces (λ corners. map (line_vertex faces) corners),
  ap length is,
  rows_few n 0 8,
)

-- A soup whose vertices are numbered anew is one.
pub with_numbers : (pos : Positions) (faces : Faces) (names : List ℕ)
    → IsSoup (record { pos = pos; faces = faces; names = names })
    → IsSoup (record { pos = pos; faces = faces; names = numbers_to (length pos) })
with_numbers pos faces names soup = record {
  in_range = soup.in_range;
  used = soup.used;
  named = length-numbers_to (length pos);
  increasing = numbers_rise (length pos);
}
