-- Grid points are points.
use Rattle.std.proofs.Common.{◌≡◌, ℕ, ◌+◌, ◌-◌, ◌<◌, ◌≤◌, inl, inr, subst, arith}
use Rattle.def_layout.specs.Gluings.{south, east, north, west, Gluing}
use Rattle.def_layout.specs.Lengths.{Lengths, wide, high, AreLengths}
use Rattle.def_written.specs.{NewFaces.dart_start, Numbers.vertex_number, Numbers.vertices, Points.point}
use Rattle.written_laws.proofs.{Borders.from_is, Rims.high_some, Rims.wide_some, EdgeNumbers.number_low}
use Rattle.{std.proofs.lemmas.Bool.cases_eq, def_layout.specs.Cells.dart, def_layout.specs.Cells.CellDart}
use Rattle.{def_layout.specs.Surfaces.IsSurface, def_written.specs.Points.IsPoint}

module _ (l : Gluing) (x : Lengths) (laid : IsSurface l) (len : AreLengths l x) where
  -- A grid point is where a dart of a cell begins.
  begins : (d : CellDart) → d.patch < l.patches → d.i < wide l x d.patch → d.j < high l x d.patch
      → IsPoint l x (dart_start l x d)
  begins d low i_low j_low = from_is l x laid len d (record { patch_low = low; i_low = i_low; j_low = j_low })

  grid_point : (p i j : ℕ) → p < l.patches → i ≤ wide l x p → j ≤ high l x p → IsPoint l x (point l x p i j)
  grid_point p i j low i_le j_le =
      let w = wide_some l x laid.paved len p low in
      let h = high_some l x laid.paved len p low in
      elim (cases_eq i (wide l x p)) [
        | inl far ↦
            let column : wide l x p - 1 + 1 ≡ i = omega (arith, far, w) in
            elim (cases_eq j (high l x p)) [
              | inl up ↦
                  let row : high l x p - 1 + 1 ≡ j = omega (arith, up, h) in
                  subst (IsPoint l x) (λ t. point l x p (column t) (row t))
                  (begins (dart p (wide l x p - 1) (high l x p - 1) north) low (omega (arith, w)) (omega (arith, h)))
              | inr down ↦ subst (IsPoint l x) (λ t. point l x p (column t) j)
                  (begins (dart p (wide l x p - 1) j east) low (omega (arith, w)) (omega (arith, j_le, down)))
            ]
        | inr near ↦ elim (cases_eq j (high l x p)) [
          | inl up ↦
              let row : high l x p - 1 + 1 ≡ j = omega (arith, up, h) in
              subst (IsPoint l x) (λ t. point l x p i (row t))
              (begins (dart p i (high l x p - 1) west) low (omega (arith, i_le, near)) (omega (arith, h)))
          | inr down ↦ begins (dart p i j south) low (omega (arith, i_le, near)) (omega (arith, j_le, down))
        ]
      ]

  -- So its number is that of a vertex.
  pub grid_low : (p i j : ℕ) → p < l.patches → i ≤ wide l x p → j ≤ high l x p → vertex_number l x (point l x p i j)
      < vertices l x
  grid_low p i j low i_le j_le = number_low l x (point l x p i j) (grid_point p i j low i_le j_le)
