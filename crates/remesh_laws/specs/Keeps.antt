-- Rounds of certificates, the numbering of the new mesh at lengths, and the text of a finished task.
use Rattle.std.specs.Prelude.{◌≡◌, ℕ, List, [], ◌∷◌, ◌++◌, ⊤}
use Rattle.def_certtext.specs.CertLines.{lists_of, Lists}
use Rattle.def_certtext.specs.declared.certs.Round.{Round}
use Rattle.def_io.specs.Bytes.{Bytes}
use Rattle.def_io.specs.declared.TheConstants.{LINE_FEED}
use Rattle.def_layout.specs.Lengths.{Lengths}
use Rattle.def_layout.specs.Layouts.{Layout, gluing_of}
use Rattle.def_text.specs.FaceSet.{FaceSet}
use Rattle.def_written.specs.Edges.{IsUndoubled}
use Rattle.def_remesh.specs.NewPoints.{lengths_in}
use Rattle.def_remesh.specs.Numberings.{IsNumbering}
use Rattle.def_remesh.specs.Certified.{IsShown}
use Rattle.def_remesh.specs.ReadAgain.{finished_soup, lines_between, IsReadAgain}
use Rattle.def_remesh.specs.Remeshed.{IsDoublingBy}
use Rattle.def_remesh.specs.Rises.{risen_floors, AreNeeded}
use Rattle.def_remesh.specs.Stitched.{KeepsShapes}
use Rattle.def_remesh.specs.Tasks.{Task}
use Rattle.def_remesh.specs.declared.tables.Tables.{Tables}
use Rattle.remesh_laws.specs.Asides.{IsAside}

-- The certificates of rounds, where this is known of each with the floors that rose before it: their lengths double an
-- edge, and floors rise by need.
abbrev pub AreLed :
    (fits : Lengths → Lists → Type 0) (layout : Layout) (rounds : List Round) (floors : Lengths) → Type 0
AreLed fits layout [] floors = ⊤
AreLed fits layout (round ∷ rounds) floors = IsDoublingBy fits layout floors (lists_of round.cert)
    × AreNeeded (gluing_of layout) (lengths_in round.cert.x.items) round.rises.items
    × AreLed fits layout rounds (risen_floors round.rises.items floors)

-- The floors behind them.
abbrev pub floors_behind : (rounds : List Round) (floors : Lengths) → Lengths
floors_behind [] floors = floors
floors_behind (round ∷ rounds) floors = floors_behind rounds (risen_floors round.rises.items floors)

-- What a numbering at these lengths shows.
pub record IsNumbered (layout : Layout) (xs : List ℕ) (tables : Tables) : Type 0 where
  pub numbering : IsNumbering layout tables
  pub lengths : tables.lengths.items ≡ xs
  pub undoubled : IsUndoubled (gluing_of layout) (lengths_in xs)
  pub shape : KeepsShapes layout (lengths_in xs)

-- A text that finishes a task of a soup, as accepted certificates show, and is read again as the new mesh where a
-- reader passes over the lines around it.
pub record ShowsTask (task : Task) (soup : FaceSet) (text : Bytes) : Type 0 where
  pub shown : IsShown task soup text
  pub read : IsAside (task.head ++ LINE_FEED ∷ []) → IsAside (lines_between task soup text shown.finished)
      → IsReadAgain text (finished_soup task soup text shown.finished)
