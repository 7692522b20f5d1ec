-- What `check` means: it judges the text of a remesh, or that of a fit.
use Rattle.std.specs.Prelude.{◌≡◌, ◌⊎◌, ℕ, Bool, true, nat_eq, codes, length}
use Rattle.std.specs.List.{starts_with}
use Rattle.def_certtext.specs.CertLines.{used}
use Rattle.def_fit.specs.declared.fit.Fit.{Fit as AnyFit}
use Rattle.def_flow.specs.Admissible.{deviation, entries}
use Rattle.def_flow.specs.Network.{Network}
use Rattle.def_io.specs.Bytes.{Bytes}
use Rattle.def_io.specs.Lines.{lines_of, tail_of}
use Rattle.def_layout.specs.Layouts.{gluing_of}
use Rattle.def_layoutnet.specs.LayoutNet.{IsNetOf}
use Rattle.def_remesh.specs.Checked.{accepted_line, IsCheckedPair}
use Rattle.def_remesh.specs.NewPoints.{lengths_in}
use Rattle.def_remesh.specs.Tasks.{old_lengths}
use Rattle.def_written.specs.NewFaces.{face_count}
use Rattle.def_run.specs.Check.{head_of, IsCountedPair, RefusesPair}
use Rattle.def_run.specs.Fit.{AsksForNearFit}
use Rattle.def_run.specs.Map.{HasMap, RefusesToMap}
use Rattle.def_run.specs.MarkLines.{front_of, IsFitHead, IsLastMark}
use Rattle.def_run.specs.Remesh.{WritesFinished}
use Rattle.def_run.specs.declared.answer.Answer.{Answer}

-- A line that begins as the head line of `fit` does.
abbrev pub begins_fit : (line : Bytes) → Bool
begins_fit line = starts_with nat_eq line (codes "#quadq 1 fit ")

-- The last line that begins as a head line does begins as that of `fit`.
pub record HasFitText (bytes : Bytes) : Type 0 where
  pub line : ℕ
  pub divided : IsLastMark (lines_of bytes) line
  pub begins : begins_fit (head_of bytes line) ≡ true

-- Bytes with a text of `fit` are judged in one way, and all others in another.
abbrev pub ByText : (bytes : Bytes) (fit remesh : Type 0) → Type 0
ByText bytes fit remesh = (HasFitText bytes × fit) ⊎ ((¬ HasFitText bytes) × remesh)

-- The text of a fit behind the mesh that it remeshes, with the numbers that are told of it.
pub record IsCountedFit (bytes : Bytes) (arcs faces deviates : ℕ) : Type 0 where
  pub line : ℕ
  pub divided : IsLastMark (lines_of bytes) line
  pub fit : AnyFit
  pub mark : IsFitHead (head_of bytes line) fit
  pub written : WritesFinished (AsksForNearFit fit) (front_of line bytes) (tail_of line bytes)
  pub arcs_told : arcs ≡ length written.shown.finished.layout.arcs
  pub faces_told : faces ≡ face_count (gluing_of written.shown.finished.layout)
      (lengths_in (used written.shown.finished.certificates).x)
  pub net : Network
  pub of_layout : IsNetOf (gluing_of written.shown.finished.layout) (old_lengths written.shown.finished.layout)
      (written.task.wish written.shown.finished.layout) written.task.settings (λ a. written.task.settings.floor) net
  pub deviation_told : deviates ≡ deviation net (entries (used written.shown.finished.certificates).x)

-- What is judged is accepted, with these numbers.
abbrev pub IsCounted : (bytes : Bytes) (arcs faces deviates : ℕ) → Type 0
IsCounted bytes arcs faces deviates =
    ByText bytes (IsCountedFit bytes arcs faces deviates) (IsCountedPair bytes arcs faces deviates)

-- For these bytes it writes this text: the line that accepts them, with the numbers of arcs and of new faces and the
-- deviation of the used lengths.
pub record WritesAccepted (bytes text : Bytes) : Type 0 where
  pub arcs : ℕ
  pub faces : ℕ
  pub deviates : ℕ
  pub counted : IsCounted bytes arcs faces deviates
  pub said : text ≡ accepted_line arcs faces deviates

-- It accepts these bytes. A text of `fit` is accepted where it has a map.
abbrev pub IsAcceptedText : (bytes : Bytes) → Type 0
IsAcceptedText bytes = ByText bytes (HasMap bytes) (IsCheckedPair bytes)

-- It refuses these bytes with this answer: a text of `fit` as `map` does.
abbrev pub RefusesToCheck : (bytes : Bytes) (answer : Answer) → Type 0
RefusesToCheck bytes answer = ByText bytes (RefusesToMap bytes answer) (RefusesPair bytes answer)
