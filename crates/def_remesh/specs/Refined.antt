-- What `refine` makes of a mesh: each edge is divided in so many.
use Rattle.std.specs.Prelude.{ℕ, ◌++◌, codes, decimal}
use Rattle.def_io.specs.Bytes.{Bytes}
use Rattle.def_layout.specs.Arcs.{long_at}
use Rattle.def_layout.specs.Layouts.{Layout, gluing_of}
use Rattle.def_text.specs.Canonical.{canonical_text}
use Rattle.def_text.specs.FaceSet.{FaceSet}
use Rattle.def_written.specs.NewFaces.{face_count}
use Rattle.def_remesh.specs.NewPoints.{multiple_of}
use Rattle.def_remesh.specs.NewSoup.{new_soup}

-- The head line.
abbrev pub refine_head : (by : ℕ) → Bytes
refine_head by = codes "#quadq 1 refine by " ++ decimal by ++ codes "\n"

-- The head line, and the canonical text of the mesh with `by` times the old lengths.
abbrev pub refined_text : (by : ℕ) (soup : FaceSet) (layout : Layout) → Bytes
refined_text by soup layout =
    refine_head by ++ canonical_text (new_soup soup layout (multiple_of by (long_at layout.arcs)))

-- How many faces that mesh has.
abbrev pub refined_faces : (by : ℕ) (layout : Layout) → ℕ
refined_faces by layout = face_count (gluing_of layout) (multiple_of by (long_at layout.arcs))
