-- Edges that are doubled, and marks of the arcs along which they run.
use Rattle.std.specs.Prelude.{◌≡◌, ◌⊎◌, ◌↔◌, ℕ, ◌<◌, ◌==◌, Bool, true, false, List, length, slice_index_or, IsTrue}
use Rattle.std.specs.List.{list_any, sum_by}
use Rattle.std.specs.List.Sorted.{IsNonDecreasing}
use Rattle.def_layout.specs.Gluings.{south, east, north, west, Gluing}
use Rattle.def_layout.specs.Lengths.{Lengths}
use Rattle.def_layout.specs.declared.tmesh.SideArc.{SideArc}
use Rattle.def_remesh.specs.Rises.{IsOnSide}
use Rattle.def_written.specs.Edges.{Edge, on_arc, IsEdge, HasEnds, IsDoubledAt}
use Rattle.qm_stitch.specs.Rims.{keys_of, line_edge, rim_edges}

-- The keys of the edges that may be doubled, in increasing order: sums over them are those over the edges.
pub record AreRimKeys (gluing : Gluing) (lengths : Lengths) (keys : List ℕ) : Type 0 where
  pub increasing : IsNonDecreasing keys
  pub moved : (f : ℕ → ℕ) → sum_by f keys ≡ sum_by f (keys_of gluing lengths (rim_edges gluing lengths))

-- An edge that is doubled.
pub record IsDoubled (gluing : Gluing) (lengths : Lengths) (edge : Edge) : Type 0 where
  pub is : IsEdge gluing lengths edge
  pub u : ℕ
  pub v : ℕ
  pub ends : HasEnds gluing lengths edge u v
  pub doubled : IsDoubledAt gluing lengths u v

-- One of the edges of an arc is.
abbrev pub IsDoubledOn : (gluing : Gluing) (lengths : Lengths) (arc : ℕ) → Type 0
IsDoubledOn gluing lengths arc = (k : ℕ) × IsDoubled gluing lengths (on_arc arc k)

-- One of those of a line inside a patch.
abbrev pub IsLineDoubled : (gluing : Gluing) (lengths : Lengths) (upright : Bool) (patch line : ℕ) → Type 0
IsLineDoubled gluing lengths upright patch line =
    (at : ℕ) × IsDoubled gluing lengths (line_edge upright patch line at)

-- One of those of all rows inside a patch, or of all columns.
abbrev pub IsDoubledIn : (gluing : Gluing) (lengths : Lengths) (upright : Bool) (patch : ℕ) → Type 0
IsDoubledIn gluing lengths upright patch = (line : ℕ) × IsLineDoubled gluing lengths upright patch line

-- An arc lies on one of the two sides along which the rows run, or the columns.
abbrev pub IsBeside : (gluing : Gluing) (upright : Bool) (patch arc : ℕ) → Type 0
IsBeside gluing false patch arc = IsOnSide gluing patch south arc ⊎ IsOnSide gluing patch north arc
IsBeside gluing true patch arc = IsOnSide gluing patch east arc ⊎ IsOnSide gluing patch west arc

-- Rows of a patch have a doubled edge, or columns, and the arc lies beside them.
abbrev pub IsTightAt : (gluing : Gluing) (lengths : Lengths) (upright : Bool) (patch arc : ℕ) → Type 0
IsTightAt gluing lengths upright patch arc =
    IsDoubledIn gluing lengths upright patch × IsBeside gluing upright patch arc

-- So it is in one of the first patches.
abbrev pub IsTightUpto : (gluing : Gluing) (lengths : Lengths) (patches arc : ℕ) → Type 0
IsTightUpto gluing lengths patches arc =
    (patch : ℕ) × (upright : Bool) × (patch < patches) × IsTightAt gluing lengths upright patch arc

-- A list of uses has the arc.
abbrev pub is_on : (side : List SideArc) (arc : ℕ) → Bool
is_on side arc = list_any (λ (used : SideArc). used.arc == arc) side

-- What is marked is what was marked, and these.
abbrev pub AddsMarks : (old new : List Bool) (more : ℕ → Type 0) → Type 0
AddsMarks old new more = (arc : ℕ) → arc < length old
    → IsTrue (slice_index_or new arc false) ↔ (IsTrue (slice_index_or old arc false) ⊎ more arc)
