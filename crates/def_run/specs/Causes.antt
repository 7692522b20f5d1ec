-- What each answer means for the bytes that a run read and wrote.
use Rattle.std.specs.Prelude.{◌≡◌, ◌≤◌, [], length, Some, ⊤}
use Rattle.def_io.specs.Bytes.{Bytes, Told}
use Rattle.def_io.specs.Faults.{Rose}
use Rattle.def_io.specs.Moves.{Change, took, GaveMore, TookPrefix}
use Rattle.def_text.specs.Input.{ReadWhole}
use Rattle.def_text.specs.Types.{Words}
use Rattle.def_text.specs.declared.limits.TheConstants.{MAX_BYTES}
use Rattle.def_text.specs.declared.refusal.Which.TheVariants.{Bytes as AllBytes}
use Rattle.def_run.specs.Bench.{HasBench, RefusesToBench, WritesBench}
use Rattle.def_run.specs.Blocks.{WritesBlocks}
use Rattle.def_run.specs.Checking.{IsAcceptedText, RefusesToCheck, WritesAccepted}
use Rattle.def_run.specs.Coarse.{AsksToMerge}
use Rattle.def_run.specs.CommandLines.{IsCommand}
use Rattle.def_run.specs.Crease.{AsksToCrease, HasCreased, RefusesToCrease}
use Rattle.def_run.specs.Fit.{AsksForNearFit, HasFit, RefusesFit}
use Rattle.def_run.specs.Grids.{HasGrids, RefusesGrids, WritesGrids}
use Rattle.def_run.specs.LayOut.{HasKept, RefusesToLayOut, WritesLayout}
use Rattle.def_run.specs.Graph.{RefusesToTrace, WritesGraph}
use Rattle.def_run.specs.Map.{HasMap, RefusesToMap, WritesMap}
use Rattle.def_run.specs.Mesh.{HasMesh}
use Rattle.def_run.specs.Refine.{HasRefined, RefusesToRefine, WritesRefined}
use Rattle.def_run.specs.Remesh.{AsksToRemesh, HasFinished, RefusesTask, WritesFinished}
use Rattle.def_run.specs.Size.{AsksForNearSize, HasSize, RefusesSize}
use Rattle.def_run.specs.Tidy.{RefusesToTidy, WritesTidied}
use Rattle.def_run.specs.declared.answer.Answer.{Answer}
use Rattle.def_run.specs.declared.answer.Answer.TheVariants.{Done, Usage, Limit, ReadFault, WriteFault, Memory}
use Rattle.def_run.specs.declared.command.Command.{Command}
use Rattle.def_run.specs.declared.command.Command.TheVariants.{Tidy, Graph, Refine, Remesh, Check, Bench, Crease, Size}
use Rattle.def_run.specs.declared.command.Command.TheVariants.{Coarse}
use Rattle.def_run.specs.declared.command.Command.TheVariants.{Blocks, Map, Fit, LayOut, Grids}

-- The text that a command writes for the bytes that it read.
abbrev pub Writes : (command : Command) (bytes text : Bytes) → Type 0
Writes Tidy bytes text = WritesTidied bytes text
Writes Graph bytes text = WritesGraph bytes text
Writes (Refine by) bytes text = WritesRefined by bytes text
Writes (Remesh settings auto) bytes text = WritesFinished (AsksToRemesh settings auto) bytes text
Writes Check bytes text = WritesAccepted bytes text
Writes (Bench size) bytes text = WritesBench size text
Writes (Crease settings) bytes text = WritesFinished (AsksToCrease settings) bytes text
Writes (Size edge floor) bytes text = WritesFinished (AsksForNearSize edge floor) bytes text
Writes (Coarse settings) bytes text = WritesFinished (AsksToMerge settings) bytes text
Writes (Blocks by) bytes text = WritesBlocks by bytes text
Writes Map bytes text = WritesMap bytes text
Writes (Fit fit) bytes text = WritesFinished (AsksForNearFit fit) bytes text
Writes (LayOut keep patches) bytes text = WritesLayout keep patches bytes text
Writes (Grids keep patches by) bytes text = WritesGrids keep patches by bytes text

-- The answer with which a command refuses the bytes that it read.
abbrev pub Refuses : (command : Command) (bytes : Bytes) (answer : Answer) → Type 0
Refuses Tidy bytes answer = RefusesToTidy bytes answer
Refuses Graph bytes answer = RefusesToTrace bytes answer
Refuses (Refine by) bytes answer = RefusesToRefine by bytes answer
Refuses (Remesh settings auto) bytes answer = RefusesTask (AsksToRemesh settings auto) bytes answer
Refuses Check bytes answer = RefusesToCheck bytes answer
Refuses (Bench size) bytes answer = RefusesToBench size answer
Refuses (Crease settings) bytes answer = RefusesToCrease settings bytes answer
Refuses (Size edge floor) bytes answer = RefusesSize edge floor bytes answer
Refuses (Coarse settings) bytes answer = RefusesTask (AsksToMerge settings) bytes answer
Refuses (Blocks by) bytes answer = RefusesToRefine by bytes answer
Refuses Map bytes answer = RefusesToMap bytes answer
Refuses (Fit fit) bytes answer = RefusesFit fit bytes answer
Refuses (LayOut keep patches) bytes answer = RefusesToLayOut keep bytes answer
Refuses (Grids keep patches by) bytes answer = RefusesGrids keep patches by bytes answer

-- The bytes for which a command has a text to write, whatever is free in it.
abbrev pub Takes : (command : Command) (bytes : Bytes) → Type 0
Takes Tidy bytes = HasMesh bytes
Takes Graph bytes = HasMesh bytes
Takes (Refine by) bytes = HasRefined by bytes
Takes (Remesh settings auto) bytes = HasFinished (AsksToRemesh settings auto) bytes
Takes Check bytes = IsAcceptedText bytes
Takes (Bench size) bytes = HasBench size
Takes (Crease settings) bytes = HasCreased settings bytes
Takes (Size edge floor) bytes = HasSize edge floor bytes
Takes (Coarse settings) bytes = HasFinished (AsksToMerge settings) bytes
Takes (Blocks by) bytes = HasRefined by bytes
Takes Map bytes = HasMap bytes
Takes (Fit fit) bytes = HasFit fit bytes
Takes (LayOut keep patches) bytes = HasKept keep bytes
Takes (Grids keep patches by) bytes = HasGrids keep patches by bytes

-- The source is as it was, as far as it tells.
abbrev pub IsUnread : (input : Change) → Type 0
IsUnread input = (input.told_now ≡ input.told) × (input.faults_now ≡ input.faults)

-- The source gave these bytes and ended. A benchmark reads nothing.
abbrev pub Reads : (command : Command) (input : Change) (bytes : Bytes) → Type 0
Reads (Bench size) input bytes = IsUnread input × (bytes ≡ [])
Reads command input bytes = ReadWhole MAX_BYTES input.told input.told_now bytes

-- The source gave too many bytes for a command that reads them.
abbrev pub ReadsTooMany : (command : Command) (input : Change) → Type 0
ReadsTooMany (Bench size) input = ⊥
ReadsTooMany command input = GaveMore MAX_BYTES input.told input.told_now

-- The source failed for a command that reads it.
abbrev pub FailsToRead : (command : Command) (input : Change) → Type 0
FailsToRead (Bench size) input = ⊥
FailsToRead command input = Rose input.faults input.faults_now

-- The command read bytes, and the sink took the command's text for them.
pub record Wrote (command : Command) (input out : Change) : Type 0 where
  pub bytes : Bytes
  pub whole : Reads command input bytes
  pub text : Bytes
  pub said : Writes command bytes text
  pub written : out.told_now ≡ took out.told text

-- The same, where the sink failed and took only a prefix of the text.
pub record WrotePrefix (command : Command) (input out : Change) : Type 0 where
  pub bytes : Bytes
  pub whole : Reads command input bytes
  pub text : Bytes
  pub said : Writes command bytes text
  pub prefix : TookPrefix out.told out.told_now text
  pub fault : Rose out.faults out.faults_now

-- The command read bytes and refuses them.
pub record Refused (command : Command) (input : Change) (answer : Answer) : Type 0 where
  pub bytes : Bytes
  pub whole : Reads command input bytes
  pub said : Refuses command bytes answer

-- What each answer to an accepted line means.
abbrev pub Cause : (command : Command) (input out : Change) (answer : Answer) → Type 0
Cause command input out Done = Wrote command input out
Cause command input out Usage = ⊥
Cause command input out (Limit AllBytes line) = (line ≡ 0) × ReadsTooMany command input
Cause command input out ReadFault = FailsToRead command input
Cause command input out WriteFault = WrotePrefix command input out
Cause command input out Memory = ⊤
Cause command input out answer = Refused command input answer

-- The words are a command's line, and the answer has its cause.
pub record Ran (words : Words) (input out : Change) (answer : Answer) : Type 0 where
  pub command : Command
  pub line : IsCommand words command
  pub cause : Cause command input out answer

-- The source holds these bytes, within the limit. Of a benchmark's source nothing is asked.
abbrev pub SourceHolds : (command : Command) (left : Told) (bytes : Bytes) → Type 0
SourceHolds (Bench size) left bytes = bytes ≡ []
SourceHolds command left bytes = (left ≡ Some bytes) × (length bytes ≤ MAX_BYTES)

-- A source that holds bytes which the command takes.
pub record IsGood (command : Command) (left : Told) : Type 0 where
  pub bytes : Bytes
  pub held : SourceHolds command left bytes
  pub taken : Takes command bytes
