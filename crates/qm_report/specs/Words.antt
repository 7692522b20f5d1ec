-- The words of the arcs of a layout.
use Rattle.std.specs.Prelude.{Bool, if◌then◌else◌, List, Option, Some, None, codes, slice_index}
use Rattle.def_cut.specs.FullCut.{is_on}
use Rattle.def_io.specs.Bytes.{Bytes}
use Rattle.def_layout.specs.declared.tmesh.TArc.{TArc}

-- The word of an arc: its first dart tells whether its edges are marked.
abbrev pub word_of : (kept : Option (List Bool)) (arc : TArc) → Bytes
word_of None arc = codes "arc"
word_of (Some marks) arc = if is_on marks (slice_index arc.darts.items 0) then codes "marked" else codes "arc"
