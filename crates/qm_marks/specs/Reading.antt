-- What is kept of a text whose `l` lines are read, line by line.
use Rattle.std.specs.Prelude.{◌≡◌, ℕ, ◌+◌, ◌<◌, ◌≤◌, Bool, false, ◌&&◌, ◌||◌, is_some, List, [], length}
use Rattle.def_cut.specs.FullCut.{is_on}
use Rattle.def_io.specs.Bytes.{Bytes}
use Rattle.def_mesh.specs.Faces.{Faces}
use Rattle.def_mesh.specs.Darts.{darts, twin_of}
use Rattle.def_text.specs.FaceSet.{FaceSet}
use Rattle.def_text.specs.Logical.{Logical}
use Rattle.def_text.specs.Types.{Words}
use Rattle.def_text.specs.declared.limits.TheConstants.{MAX_V_LINES}
use Rattle.def_marks.specs.Chains.{runs_along}
use Rattle.def_marks.specs.Lines.{corner_fails, line_chain, line_fails, named_chain, Placed, vertex_lines_in}
use Rattle.qm_marks.specs.Keys.{AreEnds}
use Rattle.qm_marks.specs.declared.ends.TheConstants.{FEW}
use Rattle.qm_marks.specs.declared.lines.MarkReader.{MarkReader}

-- A line by its number and its text.
abbrev pub line_at : (number : ℕ) (text : Bytes) → Logical
line_at number text = record { number = number; size = 0; text = text }

-- A line behind so many `v` lines, of so many in all.
abbrev pub placed_at : (all before : ℕ) (line : Logical) → Placed
placed_at all before line = record { all = all; before = before; line = line }

-- Beside the marks the edges along a chain are marked.
abbrev pub IsMarkedMore : (faces : Faces) (old new : List Bool) (chain : List ℕ) → Type 0
IsMarkedMore faces old new chain = (d : ℕ) → d < darts faces
    → is_on new d ≡ (is_on old d || (is_some (twin_of faces d) && runs_along faces chain d))

-- What a reader of marks keeps true.
pub record IsReading (soup : FaceSet) (mesh : Faces) (reader : MarkReader) : Type 0 where
  pub same : mesh ≡ soup.faces
  pub ends : AreEnds mesh FEW reader.keys.items
  pub long : length reader.marks.items ≡ darts mesh
  pub within : reader.before ≤ reader.all
  pub few : length soup.names ≤ MAX_V_LINES

-- No line is taken yet.
pub record IsBegun (mesh : Faces) (all : ℕ) (reader : MarkReader) : Type 0 where
  pub all_is : reader.all ≡ all
  pub none : reader.before ≡ 0
  pub ends : AreEnds mesh FEW reader.keys.items
  pub long : length reader.marks.items ≡ darts mesh
  pub off : (d : ℕ) → is_on reader.marks.items d ≡ false

-- What stays of a reader, whatever it takes.
pub record IsSameReader (faces : Faces) (old new : MarkReader) : Type 0 where
  pub all : new.all ≡ old.all
  pub keys : new.keys.items ≡ old.keys.items
  pub long : length new.marks.items ≡ darts faces

-- The corners of an `l` line are taken.
pub record TookCorners (soup : FaceSet) (old new : MarkReader) (number : ℕ) (corners : Words) : Type 0 where
  pub accepted : corner_fails soup old.all old.before number corners ≡ []
  pub same : IsSameReader soup.faces old new
  pub before : new.before ≡ old.before
  pub marked : IsMarkedMore soup.faces old.marks.items new.marks.items
      (named_chain soup.names old.all old.before corners)

-- One line more is taken.
pub record TookLine (soup : FaceSet) (old new : MarkReader) (line : Logical) : Type 0 where
  pub accepted : line_fails soup (placed_at old.all old.before line) ≡ []
  pub same : IsSameReader soup.faces old new
  pub before : new.before ≡ old.before + vertex_lines_in line
  pub marked : IsMarkedMore soup.faces old.marks.items new.marks.items
      (line_chain soup (placed_at old.all old.before line))
