-- What is numbered: a layout, and the lengths of its arcs.
use Rattle.def_layout.specs.Gluings.{Gluing}
use Rattle.def_layout.specs.Lengths.{Lengths}
use Rattle.def_layout.specs.Layouts.{gluing_of, layout_of}
use Rattle.def_remesh.specs.NewPoints.{lengths_in}
use Rattle.qm_stitch.specs.declared.numbered.Numbered.{Numbered}

abbrev pub gluing_in : (numbered : Numbered) → Gluing
gluing_in numbered = gluing_of (layout_of numbered.t.now)

abbrev pub lengths_by : (numbered : Numbered) → Lengths
lengths_by numbered = lengths_in numbered.tables.now.lengths.items
