-- The darts of the new faces, by number and by cell.
use Rattle.std.proofs.Common.{rules, [], ◌≡◌, ℕ, zero, suc, ◌+◌, ◌*◌, ◌/◌, ◌%◌, ◌<◌, length, refl, arith}
use Rattle.std.proofs.lemmas.List.FromFn.{length-map-range_with_len, get_or-map-range_with_len}
use Rattle.std.{proofs.lemmas.Bool.Decides.nat_tests, specs.Prelude.slice_index_or}
use Rattle.def_mesh.specs.{Faces.corner, Darts.darts, Darts.next_of, Darts.prev_of, Darts.from_of, Darts.to_of}
use Rattle.def_layout.specs.Gluings.{Way, south, east, north, west, side_after, side_before, Gluing}
use Rattle.def_layout.specs.{Cells.CellDart, Cells.IsDart, Cells.dart, Cells.next, Cells.prev, Surfaces.IsSurface}
use Rattle.def_layout.specs.{Lengths.Lengths, Lengths.wide, Lengths.high, Lengths.AreLengths}
use Rattle.def_written.specs.NewFaces.{dart_start, dart_end, face_count, dart_of, cell_vertex, new_face, new_faces}
use Rattle.def_written.specs.Numbers.{vertex_number}
use Rattle.written_laws.proofs.Spacings.{IsCell, number_of, number_inside, cell_once, cell_here}

-- The sides of a face by number.
abbrev pub turn : (side : Way) → ℕ
turn south = 0
turn east = 1
turn north = 2
turn west = 3

abbrev pub way_of : (k : ℕ) → Way
way_of zero = south
way_of (suc zero) = east
way_of (suc (suc zero)) = north
way_of (suc (suc (suc k))) = west

pub way_turn : (w : Way) → way_of (turn w) ≡ w
way_turn = elim [ south ↦ refl | east ↦ refl | north ↦ refl | west ↦ refl ]

pub turn_way : (k : ℕ) → k < 4 → turn (way_of k) ≡ k
turn_way (suc (suc (suc k))) low = omega arith
turn_way _ low = refl

pub turn_low : (w : Way) → turn w < 4
turn_low = elim [ south ↦ omega arith | east ↦ omega arith | north ↦ omega arith | west ↦ omega arith ]

around : (c : ℕ) (w : Way) → (next_of (4 * c + turn w) ≡ 4 * c + turn (side_after w))
    × (prev_of (4 * c + turn w) ≡ 4 * c + turn (side_before w))
around c w = search (rules, nat_tests)

module _ (l : Gluing) (x : Lengths) where
  -- The number of a dart's cell.
  abbrev pub cell_number : (d : CellDart) → ℕ
  cell_number d = number_of (wide l x) (high l x) l.patches d.patch d.i d.j

  -- The number of a dart.
  abbrev pub dart_number : (d : CellDart) → ℕ
  dart_number d = 4 * cell_number d + turn d.way

  pub next_number : (d : CellDart) → next_of (dart_number d) ≡ dart_number (next d)
  next_number d = (around _ d.way).0

  pub prev_number : (d : CellDart) → prev_of (dart_number d) ≡ dart_number (prev d)
  prev_number d = (around _ d.way).1

  cell_of : (d : CellDart) → IsDart l x d → IsCell (wide l x) (high l x) l.patches d.patch d.i d.j
  cell_of d is = record { low = is.patch_low; column = is.i_low; row = is.j_low }

  pub cell_low : (d : CellDart) → IsDart l x d → cell_number d < face_count l x
  cell_low d is = number_inside (wide l x) (high l x) l.patches (cell_of d is)

  pub faces_long : length (new_faces l x) ≡ face_count l x
  faces_long = length-map-range_with_len (new_face l x) 0 (face_count l x)

  pub dart_low : (d : CellDart) → IsDart l x d → dart_number d < darts (new_faces l x)
  dart_low d is = omega (arith, cell_low d is, turn_low d.way, faces_long)

  -- A dart is found by its cell.
  pub dart_at : (d : CellDart) (w : Way) → IsDart l x d → dart_of l x (cell_number d) w ≡ dart d.patch d.i d.j w
  dart_at d w is =
      let here = cell_here (wide l x) (high l x) l.patches (cell_number d) (cell_low d is) in
      grind (arith, cell_once (wide l x) (high l x) l.patches here.0 (cell_of d is) here.1)

  -- Darts with one number are one.
  pub dart_same : (d e : CellDart) → IsDart l x d → IsDart l x e → dart_number d ≡ dart_number e → d ≡ e
  dart_same d e is_d is_e same =
      let turn_same : turn d.way ≡ turn e.way = omega (arith, turn_low) in
      let way_same : d.way ≡ e.way = cc (way_turn d.way, way_turn e.way) in
      let s = cell_once _ _ _ (cell_of d is_d) (cell_of e is_e) (omega (arith, turn_low d.way, turn_low e.way)) in
      λ t. dart (s.0 t) (s.1 t) (s.2 t) (way_same t)

  -- The corners of the new faces.
  pub corner_is : (f : ℕ) (w : Way) → f < face_count l x → corner (new_faces l x) f (turn w) ≡ cell_vertex l x f w
  corner_is f w low = cc (get_or-map-range_with_len (new_face l x) 0 _ f f [] low (omega arith), by_way w)
    where
      by_way : (w : Way) → slice_index_or (new_face l x f) (turn w) 0 ≡ cell_vertex l x f w
      by_way = elim [ south ↦ refl | east ↦ refl | north ↦ refl | west ↦ refl ]

  -- A dart's number begins at the number of its point, and ends so.
  pub number_from : (d : CellDart) → IsDart l x d → from_of (new_faces l x) (dart_number d)
      ≡ vertex_number l x (dart_start l x d)
  number_from d is =
      let f : dart_number d / 4 ≡ cell_number d = omega (arith, turn_low d.way) in
      let k : dart_number d % 4 ≡ turn d.way = omega (arith, turn_low d.way) in
      cc (corner_is _ d.way (cell_low d is), dart_at d d.way is)

  pub next_is : (d : CellDart) → IsDart l x d → IsDart l x (next d)
  next_is d is = record { patch_low = is.patch_low; i_low = is.i_low; j_low = is.j_low }

  pub prev_is : (d : CellDart) → IsDart l x d → IsDart l x (prev d)
  prev_is d is = record { patch_low = is.patch_low; i_low = is.i_low; j_low = is.j_low }

  pub number_to : (d : CellDart) → IsDart l x d → to_of (new_faces l x) (dart_number d)
      ≡ vertex_number l x (dart_end l x d)
  number_to d is = cc (next_number d, number_from _ (next_is d is))

  module _ (laid : IsSurface l) (len : AreLengths l x) where
    -- The darts of a new face lie in a patch.
    pub cell_is : (f : ℕ) (w : Way) → f < face_count l x → IsDart l x (dart_of l x f w)
    cell_is f w low = let c = (cell_here (wide l x) (high l x) l.patches f low).0 in search rules

    -- Each dart of the new faces is that of a cell.
    pub at_number : (n : ℕ) → n < darts (new_faces l x) → (d : CellDart) × IsDart l x d × (dart_number d ≡ n)
    at_number n low =
        let f_low : n / 4 < face_count l x = omega (arith, faces_long) in
        let c = cell_here (wide l x) (high l x) l.patches (n / 4) f_low in
        (dart_of l x (n / 4) (way_of (n % 4)), search (rules, cell_is), search (rules, turn_way))
