-- The text of the blocks of a mesh. Blocks count from 1, and points of a side from 0.
use Rattle.std.specs.Prelude.{ℕ, ◌+◌, Option, Some, None, List, [], ◌∷◌, ◌++◌, length, map, drop, codes, decimal}
use Rattle.std.specs.Prelude.{slice_index_or}
use Rattle.std.specs.List.{flat_map, range_with_len}
use Rattle.def_io.specs.Bytes.{Bytes}
use Rattle.def_io.specs.declared.TheConstants.{LINE_FEED}
use Rattle.def_layout.specs.Lengths.{Lengths, wide, high}
use Rattle.def_layout.specs.Layouts.{Layout, gluing_of}
use Rattle.def_mesh.specs.Faces.{Faces}
use Rattle.def_remesh.specs.NewSoup.{new_place}
use Rattle.def_text.specs.Canonical.{micro_text}
use Rattle.def_text.specs.FaceSet.{FaceSet}
use Rattle.def_text.specs.Types.{Position, Positions}
use Rattle.def_text.specs.declared.letters.TheConstants.{SPACE}
use Rattle.def_blocks.specs.SidePoints.{grid_vertex}
use Rattle.def_blocks.specs.declared.link.Link.{Link}
use Rattle.def_blocks.specs.declared.link.SideName.{SideName}
use Rattle.def_blocks.specs.declared.link.SideName.TheVariants.{South, East, North, West}

-- The line of a point: its coordinates, with a space between.
abbrev pub point_line : (position : Position) → Bytes
point_line position = drop 1 (flat_map (λ z. SPACE ∷ micro_text z) position ++ LINE_FEED ∷ [])

-- The place of the new vertex at a grid point of a block.
abbrev pub grid_place :
    (faces : Faces) (layout : Layout) (places : Positions) (new : Lengths) (block j i : ℕ) → Position
grid_place faces layout places new block j i =
    new_place faces layout places new (grid_vertex (gluing_of layout) new block i j)

-- The places of a row of a block, from west to east.
abbrev pub row_places : (faces : Faces) (layout : Layout) (places : Positions) (new : Lengths) (block j : ℕ) → Positions
row_places faces layout places new block j =
    map (grid_place faces layout places new block j) (range_with_len 0 (wide (gluing_of layout) new block + 1))

-- The lines of these points.
abbrev pub row_text : (places : Positions) → Bytes
row_text places = flat_map point_line places

-- The lines of all points of a block, row by row from the south.
abbrev pub points_text : (faces : Faces) (layout : Layout) (places : Positions) (new : Lengths) (block : ℕ) → Bytes
points_text faces layout places new block = flat_map row_text
    (map (row_places faces layout places new block) (range_with_len 0 (high (gluing_of layout) new block + 1)))

-- The word of a side.
abbrev pub side_text : (name : SideName) → Bytes
side_text South = codes "south"
side_text East = codes "east"
side_text North = codes "north"
side_text West = codes "west"

-- The side of a link, its first point there, and how many edges it has.
abbrev pub span_text : (link : Link) → Bytes
span_text link = side_text link.side ++ codes " " ++ decimal link.from ++ codes " " ++ decimal link.len

-- The line of a link to a point of another block's side, or to none.
abbrev pub link_to : (link : Link) (other : Option (ℕ × SideName × ℕ)) → Bytes
link_to link None = codes "wall " ++ span_text link ++ codes "\n"
link_to link (Some (block, side, from)) = codes "link " ++ span_text link
    ++ codes " " ++ decimal (block + 1) ++ codes " " ++ side_text side ++ codes " " ++ decimal from ++ codes "\n"

-- The line of a link.
abbrev pub link_line : (link : Link) → Bytes
link_line link = link_to link link.other

-- The line of a block: its number, how wide it is, and how high.
abbrev pub block_line : (number wide high : ℕ) → Bytes
block_line number wide high =
    codes "block " ++ decimal number ++ codes " " ++ decimal wide ++ codes " " ++ decimal high ++ codes "\n"

-- The lines of a block: its size, its points and its links.
abbrev pub block_lines : (old : FaceSet) (layout : Layout) (new : Lengths) (links : List (List Link)) (block : ℕ)
    → Bytes
block_lines old layout new links block =
    block_line (block + 1) (wide (gluing_of layout) new block) (high (gluing_of layout) new block)
    ++ (points_text old.faces layout old.pos new block ++ flat_map link_line (slice_index_or links block []))

-- The first two lines: how many parts each edge has, and how many blocks there are.
abbrev pub blocks_head : (by blocks : ℕ) → Bytes
blocks_head by blocks = codes "quadq blocks 1 by " ++ decimal by ++ codes "\nblocks " ++ decimal blocks ++ codes "\n"

-- All lines.
abbrev pub blocks_text : (by : ℕ) (old : FaceSet) (layout : Layout) (new : Lengths) (links : List (List Link)) → Bytes
blocks_text by old layout new links = blocks_head by (length layout.patches)
    ++ flat_map (block_lines old layout new links) (range_with_len 0 (length layout.patches))
