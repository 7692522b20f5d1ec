-- The lines of the faces of one patch.
use Rattle.std.specs.Prelude.{ℕ, ◌*◌, ◌/◌, ◌%◌, List, Option, map}
use Rattle.std.specs.List.{flat_map, range_with_len}
use Rattle.def_io.specs.Bytes.{Bytes}
use Rattle.def_layout.specs.Lengths.{Lengths, wide, high}
use Rattle.def_layout.specs.Layouts.{Layout, gluing_of}
use Rattle.def_map.specs.Homes.{home_of}
use Rattle.def_map.specs.MapText.{cell_line}
use Rattle.def_map.specs.declared.home.Home.{Home}

-- Where cell k of a patch lies, counted row by row.
abbrev pub home_in : (layout : Layout) (shares : Option (List ℕ)) (new : Lengths) (patch k : ℕ) → Home
home_in layout shares new patch k =
    home_of layout shares new patch (k % wide (gluing_of layout) new patch) (k / wide (gluing_of layout) new patch)

-- The lines of all cells of the patch.
abbrev pub patch_lines : (layout : Layout) (shares : Option (List ℕ)) (new : Lengths) (patch : ℕ) → Bytes
patch_lines layout shares new patch = flat_map cell_line
    (map (home_in layout shares new patch)
    (range_with_len 0 (wide (gluing_of layout) new patch * high (gluing_of layout) new patch)))
