-- The blocks of a new mesh, as they are put.
use Rattle.std.specs.Prelude.{ℕ, List, ◌+◌, length, map}
use Rattle.std.specs.List.{flat_map, range_with_len}
use Rattle.def_io.specs.Bytes.{Bytes}
use Rattle.def_cuttext.specs.GridsText.{cut_block_lines}
use Rattle.def_layout.specs.Lengths.{wide, high}
use Rattle.def_layout.specs.Layouts.{gluing_of}
use Rattle.def_layout.specs.declared.tmesh.Side.{Side}
use Rattle.def_layout.specs.declared.tmesh.SideArc.{SideArc}
use Rattle.def_remesh.specs.CutSoups.{Regrid}
use Rattle.def_remesh.specs.NewPoints.{lengths_in}
use Rattle.def_text.specs.Types.{Position, Positions}
use Rattle.def_blocks.specs.BlockTexts.{block_line, grid_place, points_text, row_places}
use Rattle.def_blocks.specs.declared.link.Link.{Link}
use Rattle.qm_blocktext.specs.declared.blocks.Blocks.{Blocks}

-- How wide a block is, and how high.
abbrev pub width_in : (new : Regrid) (block : ℕ) → ℕ
width_in new block = wide (gluing_of new.layout) (lengths_in new.lengths) block

abbrev pub height_in : (new : Regrid) (block : ℕ) → ℕ
height_in new block = high (gluing_of new.layout) (lengths_in new.lengths) block

-- The place of a grid point, those of a row, and the lines of all points of a block.
abbrev pub place_in : (new : Regrid) (block j i : ℕ) → Position
place_in new block j i = grid_place new.soup.faces new.layout new.soup.pos (lengths_in new.lengths) block j i

abbrev pub row_in : (new : Regrid) (block j : ℕ) → Positions
row_in new block j = row_places new.soup.faces new.layout new.soup.pos (lengths_in new.lengths) block j

abbrev pub points_in : (new : Regrid) (block : ℕ) → Bytes
points_in new block = points_text new.soup.faces new.layout new.soup.pos (lengths_in new.lengths) block

-- The line of a block with its size.
abbrev pub size_in : (new : Regrid) (block : ℕ) → Bytes
size_in new block = block_line (block + 1) (width_in new block) (height_in new block)

-- The links of each block.
abbrev pub links_in : (blocks : Blocks) → List (List Link)
links_in blocks = map (λ links. links.items) blocks.links.items

-- The arcs of sides, one after the other.
abbrev pub arcs_of : (sides : List Side) → List ℕ
arcs_of sides = flat_map (λ (side : Side). map (λ (used : SideArc). used.arc) side.arcs.items) sides

-- The lines of one of the blocks, and of all.
abbrev pub lines_at : (blocks : Blocks) (block : ℕ) → Bytes
lines_at blocks block =
    cut_block_lines blocks.chosen blocks.points.soup blocks.points.layout (lengths_in blocks.points.lengths)
    (links_in blocks) block

abbrev pub lines_in : (blocks : Blocks) → Bytes
lines_in blocks = flat_map (lines_at blocks) (range_with_len 0 (length blocks.points.layout.patches))
