-- Where the vertices of a new mesh lie in the mesh of bytes that are read.
use Rattle.std.specs.Prelude.{◌≡◌, ◌<◌, ℕ, Bool, List, [], Option, None, slice_index_or}
use Rattle.def_certtext.specs.CertLines.{used}
use Rattle.def_certtext.specs.Risings.{may_rise}
use Rattle.def_certtext.specs.Settings.{AreInRange}
use Rattle.def_cut.specs.FullCut.{IsFullCut}
use Rattle.def_io.specs.Bytes.{Bytes}
use Rattle.def_layout.specs.Arcs.{long_at}
use Rattle.def_layout.specs.FaceLayouts.{IsCutLayout}
use Rattle.def_layout.specs.Lengths.{AreLengths, Lengths}
use Rattle.def_layout.specs.Layouts.{gluing_of, Layout}
use Rattle.def_map.specs.Laws.{IsSpot}
use Rattle.def_map.specs.SpotPlaces.{spot_place}
use Rattle.def_map.specs.Spots.{spot_at}
use Rattle.def_remesh.specs.NewPoints.{lengths_in, multiple_of}
use Rattle.def_remesh.specs.NewSoup.{spaced_soup}
use Rattle.def_remesh.specs.Spaced.{spacing_by}
use Rattle.def_run.specs.Map.{asks_of}
use Rattle.def_run.specs.Mesh.{IsMeshText}
use Rattle.def_run.specs.Refine.{WritesRefined}
use Rattle.def_run.specs.Remesh.{WritesFinished}
use Rattle.def_run.specs.declared.command.Command.{Command}
use Rattle.def_text.specs.FaceSet.{FaceSet}
use Rattle.def_written.specs.Numbers.{vertices}
use Rattle.def_written.specs.Spacings.{IsSpacing}

-- Each new vertex lies in the old mesh, and the place that is computed from where it lies is the one of its `v` line.
abbrev pub AreSpots : (soup : FaceSet) (layout : Layout) (shares : Option (List ℕ)) (new : Lengths) → Type 0
AreSpots soup layout shares new = (v : ℕ) → v < vertices (gluing_of layout) new
    → IsSpot soup.faces (spot_at layout shares new v)
    × (spot_place soup.faces soup.pos (spot_at layout shares new v)
    ≡ slice_index_or (spaced_soup soup layout shares new).pos v [])

-- So it is over each full cut of the mesh of the bytes, for each spacing.
abbrev pub SpotTextLaw : Type 0
SpotTextLaw = (bytes : Bytes) (soup : FaceSet) (marks : List Bool) (layout : Layout) (shares : Option (List ℕ))
    (new : Lengths) → IsMeshText bytes soup → IsFullCut soup.faces marks → IsCutLayout soup.faces marks layout
    → AreLengths (gluing_of layout) new
    → IsSpacing (gluing_of layout) (long_at layout.arcs) new (spacing_by layout shares new)
    → AreSpots soup layout shares new

-- So it is in the new mesh that `refine` wrote for them.
abbrev pub RefinedSpotsLaw : Type 0
RefinedSpotsLaw = (by : ℕ) (bytes text : Bytes) → 0 < by → (wrote : WritesRefined by bytes text)
    → AreSpots wrote.soup wrote.refined.layout None (multiple_of by (long_at wrote.refined.layout.arcs))

-- So it is in the one that a command wrote which finds least lengths.
abbrev pub FinishedSpotsLaw : Type 0
FinishedSpotsLaw = (command : Command) (bytes text : Bytes) (wrote : WritesFinished (asks_of command) bytes text)
    → AreInRange wrote.task.settings (may_rise wrote.task.rising)
    → AreSpots wrote.soup wrote.shown.finished.layout wrote.task.shares
    (lengths_in (used wrote.shown.finished.certificates).x)
