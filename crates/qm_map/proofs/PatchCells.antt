-- The cells of a patch, and the lines of all patches.
use Rattle.std.proofs.Common.{◌≡◌, ℕ, ◌*◌, ◌/◌, ◌%◌, ◌<◌, List, Option, length, map, arith}
use Rattle.std.proofs.Math.Nat.{mul_comm}
use Rattle.def_layout.specs.{Lengths.Lengths, Layouts.Layout, Layouts.gluing_of}
use Rattle.def_map.specs.{Homes.dart_home, MapText.cell_line, MapText.cell_lines}
use Rattle.{std.specs.List.flat_map, std.specs.List.range_with_len, map_laws.proofs.Cells.by_patches}
use Rattle.{qm_map.specs.PatchLines.patch_lines, written_laws.proofs.EdgeNumbers.in_rows}

-- The lines of all patches are those of all cells.
pub all_lines : (layout : Layout) (shares : Option (List ℕ)) (new : Lengths) → flat_map (patch_lines layout shares new)
    (map (λ p. p) (range_with_len 0 (length layout.patches))) ≡ cell_lines layout shares new
all_lines layout shares new = by_patches (gluing_of layout) new (dart_home layout shares new) cell_line
    (length layout.patches) (omega arith)

-- Cell k lies in a column and a row.
pub in_grid : (w h k : ℕ) → k < w * h → (k % w < w) × (k / w < h) × (0 < w)
in_grid w h k less = let at = in_rows w h k (rw (← mul_comm w h) less) in (at.0, at.1, omega (arith, at.0))
