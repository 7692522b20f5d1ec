-- What a command writes as a mesh is read again as that mesh.
use Rattle.std.specs.Prelude.{◌≤◌, ◌<◌, ℕ, [], length, slice_index_or, ⊤}
use Rattle.def_io.specs.Bytes.{Bytes}
use Rattle.def_io.specs.Lines.{lines_of}
use Rattle.def_io.specs.Moves.{Change}
use Rattle.def_layout.specs.Arcs.{long_at}
use Rattle.def_remesh.specs.NewPoints.{multiple_of}
use Rattle.def_remesh.specs.NewSoup.{new_soup}
use Rattle.def_remesh.specs.ReadAgain.{finished_soup, lines_between, IsReadAgain}
use Rattle.def_text.specs.Types.{Words}
use Rattle.def_text.specs.declared.limits.TheConstants.{MAX_LINE}
use Rattle.def_run.specs.Causes.{Writes, Wrote}
use Rattle.def_run.specs.Coarse.{AsksToMerge}
use Rattle.def_run.specs.CommandLines.{IsCommand}
use Rattle.def_run.specs.Crease.{AsksToCrease}
use Rattle.def_run.specs.Fit.{AsksForNearFit}
use Rattle.def_run.specs.Remesh.{Asks, AsksToRemesh, WritesFinished}
use Rattle.def_run.specs.Size.{AsksForNearSize}
use Rattle.def_run.specs.declared.command.Command.{Command}
use Rattle.def_run.specs.declared.command.Command.TheVariants.{Refine, Remesh, Crease, Size, Coarse, Fit}

-- No line is longer than a reader takes.
abbrev pub HasShortLines : (text : Bytes) → Type 0
HasShortLines text = (k : ℕ) → k < length (lines_of text) → length (slice_index_or (lines_of text) k []) ≤ MAX_LINE

-- The text of a finished task is read again as its mesh.
abbrev pub RereadsTask : (asks : Asks) (bytes text : Bytes) (said : WritesFinished asks bytes text) → Type 0
RereadsTask asks bytes text said = IsReadAgain text (finished_soup said.task said.soup text said.shown.finished)

-- The text of a command that writes a new mesh is read again as this mesh: that of `crease` and of `fit` where no line
-- of marked edges is too long.
abbrev pub Rereads : (command : Command) (bytes text : Bytes) (said : Writes command bytes text) → Type 0
Rereads (Refine by) bytes text said =
    IsReadAgain text (new_soup said.soup said.refined.layout (multiple_of by (long_at said.refined.layout.arcs)))
Rereads (Remesh settings auto) bytes text said = RereadsTask (AsksToRemesh settings auto) bytes text said
Rereads (Crease settings) bytes text said = HasShortLines (lines_between said.task said.soup text said.shown.finished)
    → RereadsTask (AsksToCrease settings) bytes text said
Rereads (Size edge floor) bytes text said = RereadsTask (AsksForNearSize edge floor) bytes text said
Rereads (Coarse settings) bytes text said = RereadsTask (AsksToMerge settings) bytes text said
Rereads (Fit fit) bytes text said = HasShortLines (lines_between said.task said.soup text said.shown.finished)
    → RereadsTask (AsksForNearFit fit) bytes text said
Rereads _ bytes text said = ⊤

-- The words are a command's line. It read bytes, and the sink took its text for them, which is read again.
pub record WroteReread (words : Words) (input out : Change) : Type 0 where
  pub command : Command
  pub line : IsCommand words command
  pub wrote : Wrote command input out
  pub read : Rereads command wrote.bytes wrote.text wrote.said
