-- What is said of a run on the error sink.
use Rattle.std.specs.Prelude.{◌≡◌, ◌⊎◌, ℕ, List, Ok}
use Rattle.def_gen.specs.Steps.{steps_soup}
use Rattle.def_io.specs.Bytes.{Bytes}
use Rattle.def_io.specs.Faults.{Rose}
use Rattle.def_io.specs.Lines.{lines_of}
use Rattle.def_io.specs.Moves.{Change, took, TookPrefix}
use Rattle.def_mesh.specs.declared.Place.{Place}
use Rattle.def_text.specs.FaceSet.{FaceSet}
use Rattle.def_text.specs.Text.{soup_in}
use Rattle.def_text.specs.Types.{Words}
use Rattle.def_run.specs.Causes.{Reads}
use Rattle.def_run.specs.Check.{HasOldSoup}
use Rattle.def_run.specs.Checking.{ByText}
use Rattle.def_run.specs.CommandLines.{IsCommand}
use Rattle.def_run.specs.ErrorLines.{error_line}
use Rattle.def_run.specs.MarkLines.{front_of, IsLastMark}
use Rattle.def_run.specs.declared.answer.Answer.{Answer}
use Rattle.def_run.specs.declared.answer.Answer.TheVariants.{NotManifold}
use Rattle.def_run.specs.declared.command.Command.{Command}
use Rattle.def_run.specs.declared.command.Command.TheVariants.{Check, Bench, Map}

-- The sink took this line, or failed and took a prefix of it.
abbrev pub Said : (line : Bytes) (err : Change) → Type 0
Said line err = (err.told_now ≡ took err.told line)
    ⊎ (Rose err.faults err.faults_now × TookPrefix err.told err.told_now line)

-- The soup of the text in front of the last line that begins as a head line does.
abbrev pub HasFrontSoup : (bytes : Bytes) (soup : FaceSet) → Type 0
HasFrontSoup bytes soup = (line : ℕ) × IsLastMark (lines_of bytes) line × (soup_in (front_of line bytes) ≡ Ok soup)

-- The soup whose mesh a command looks at: that of the bytes, of the old text in front of a head line, or the made one.
abbrev pub LooksAt : (command : Command) (bytes : Bytes) (soup : FaceSet) → Type 0
LooksAt Check bytes soup = ByText bytes (HasFrontSoup bytes soup) ((line : ℕ) × HasOldSoup bytes line soup)
LooksAt (Bench size) bytes soup = soup ≡ steps_soup size
LooksAt Map bytes soup = HasFrontSoup bytes soup
LooksAt command bytes soup = soup_in bytes ≡ Ok soup

-- A command read these numbers of vertices with its soup.
pub record ReadsNames (command : Command) (input : Change) (names : List ℕ) : Type 0 where
  pub bytes : Bytes
  pub whole : Reads command input bytes
  pub soup : FaceSet
  pub looks : LooksAt command bytes soup
  pub numbers : names ≡ soup.names

-- Vertices in the line of an answer have the numbers of the file that the command read.
abbrev pub AreNames : (command : Command) (input : Change) (answer : Answer) (names : List ℕ) → Type 0
AreNames command input answer names =
    (place : Place) → answer ≡ NotManifold place → ReadsNames command input names

-- The words are a command's line, and the vertices in the line of its answer have the numbers of the file.
pub record AreNamesOf (words : Words) (input : Change) (answer : Answer) (names : List ℕ) : Type 0 where
  pub command : Command
  pub line : IsCommand words command
  pub numbered : AreNames command input answer names

-- The error sink took the answer's line, or failed and took a prefix of it.
pub record SaidWhy (words : Words) (input err : Change) (answer : Answer) : Type 0 where
  pub names : List ℕ
  pub of_the_file : (place : Place) → answer ≡ NotManifold place → AreNamesOf words input answer names
  pub said : Said (error_line names answer) err
