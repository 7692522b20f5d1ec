-- The text of the grids of a chosen cut: that of blocks, where each link says the number of its arc.
use Rattle.std.specs.Prelude.{◌≡◌, ℕ, ◌+◌, List, [], ◌∷◌, ◌++◌, length, map, codes, decimal, slice_index_or}
use Rattle.std.specs.Prelude.{Option, Some, None}
use Rattle.std.specs.List.{flat_map, range_with_len}
use Rattle.def_blocks.specs.BlockTexts.{block_line, blocks_head, link_line, points_text}
use Rattle.def_blocks.specs.Laws.{AreJoined, AreMutual}
use Rattle.def_blocks.specs.Links.{AreLinks}
use Rattle.def_blocks.specs.declared.link.Link.{Link}
use Rattle.def_fit.specs.FitWords.{keep_word, patches_word}
use Rattle.def_io.specs.Bytes.{Bytes}
use Rattle.def_io.specs.Lines.{without_last}
use Rattle.def_io.specs.declared.TheConstants.{LINE_FEED}
use Rattle.def_layout.specs.Arcs.{long_at}
use Rattle.def_layout.specs.Gluings.{south, east, north, west}
use Rattle.def_layout.specs.Lengths.{Lengths, wide, high}
use Rattle.def_layout.specs.Layouts.{gluing_of, Layout, side_at}
use Rattle.def_layout.specs.declared.tmesh.SideArc.{SideArc}
use Rattle.def_patches.specs.declared.Keep.{Keep}
use Rattle.def_patches.specs.declared.Patches.{Patches}
use Rattle.def_remesh.specs.NewPoints.{multiple_of}
use Rattle.def_text.specs.FaceSet.{FaceSet}
use Rattle.def_text.specs.declared.letters.TheConstants.{SPACE}
use Rattle.def_cuttext.specs.declared.chosen.Chosen.{Chosen}

-- The arcs around a block, side after side: one for each of its links.
abbrev pub arcs_around : (layout : Layout) (block : ℕ) → List ℕ
arcs_around layout block = map (λ (used : SideArc). used.arc)
    (side_at layout block south ++ side_at layout block east ++ side_at layout block north ++ side_at layout block west)

-- The line of a link, with the number of its arc.
abbrev pub arc_link_line : (link : Link) (arc : ℕ) → Bytes
arc_link_line link arc = without_last LINE_FEED (link_line link) ++ SPACE ∷ decimal (arc + 1) ++ LINE_FEED ∷ []

-- The lines of links along these arcs.
abbrev pub arc_link_lines : (links : List Link) (arcs : List ℕ) → Bytes
arc_link_lines [] arcs = []
arc_link_lines (link ∷ links) [] = []
arc_link_lines (link ∷ links) (arc ∷ arcs) = arc_link_line link arc ++ arc_link_lines links arcs

-- The lines of a grid: its size, its points and its links.
abbrev pub grid_lines : (old : FaceSet) (layout : Layout) (new : Lengths) (links : List (List Link)) (block : ℕ) → Bytes
grid_lines old layout new links block =
    block_line (block + 1) (wide (gluing_of layout) new block) (high (gluing_of layout) new block)
    ++ (points_text old.faces layout old.pos new block
    ++ arc_link_lines (slice_index_or links block []) (arcs_around layout block))

-- The first two lines.
abbrev pub grids_head : (keep : Keep) (patches : Patches) (by blocks : ℕ) → Bytes
grids_head keep patches by blocks =
    codes "quadq grids 1 keep " ++ keep_word keep ++ codes " patches " ++ patches_word patches
    ++ codes " by " ++ decimal by ++ codes "\nblocks " ++ decimal blocks ++ codes "\n"

-- All lines.
abbrev pub grids_text :
    (keep : Keep) (patches : Patches) (by : ℕ) (old : FaceSet) (layout : Layout) (new : Lengths)
    (links : List (List Link))
    → Bytes
grids_text keep patches by old layout new links = grids_head keep patches by (length layout.patches)
    ++ flat_map (grid_lines old layout new links) (range_with_len 0 (length layout.patches))

-- The text of the grids of a layout with `by` times its old lengths: its links are those of the layout, each leads to
-- one that leads back, and linked points are one vertex of the new mesh.
pub record IsGridsText (keep : Keep) (patches : Patches) (by : ℕ) (old : FaceSet) (layout : Layout) (text : Bytes)
    : Type 0 where
  pub links : List (List Link)
  pub linked : AreLinks (gluing_of layout) (multiple_of by (long_at layout.arcs)) links
  pub back : AreMutual (length layout.patches) links
  pub joined : AreJoined (gluing_of layout) (multiple_of by (long_at layout.arcs)) links
  pub written : text ≡ grids_text keep patches by old layout (multiple_of by (long_at layout.arcs)) links

-- The first two lines: those of blocks, or of the grids of a chosen cut.
abbrev pub head_lines : (chosen : Option Chosen) (by blocks : ℕ) → Bytes
head_lines None by blocks = blocks_head by blocks
head_lines (Some chosen) by blocks = grids_head chosen.keep chosen.patches by blocks

-- The lines of the links of a block: those of a chosen cut with their arcs.
abbrev pub links_text : (chosen : Option Chosen) (links : List Link) (arcs : List ℕ) → Bytes
links_text None links arcs = flat_map link_line links
links_text (Some chosen) links arcs = arc_link_lines links arcs

-- The lines of a block: its size, its points and its links.
abbrev pub cut_block_lines :
    (chosen : Option Chosen) (old : FaceSet) (layout : Layout) (new : Lengths) (links : List (List Link)) (block : ℕ)
    → Bytes
cut_block_lines chosen old layout new links block =
    block_line (block + 1) (wide (gluing_of layout) new block) (high (gluing_of layout) new block)
    ++ (points_text old.faces layout old.pos new block
    ++ links_text chosen (slice_index_or links block []) (arcs_around layout block))

-- The text of blocks, or of the grids of a chosen cut.
abbrev pub chosen_text :
    (chosen : Option Chosen) (by : ℕ) (old : FaceSet) (layout : Layout) (new : Lengths) (links : List (List Link))
    → Bytes
chosen_text chosen by old layout new links = head_lines chosen by (length layout.patches)
    ++ flat_map (cut_block_lines chosen old layout new links) (range_with_len 0 (length layout.patches))
