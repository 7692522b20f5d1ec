-- What `map` means: it says where each vertex and face of a new mesh lies in the mesh in front of it.
use Rattle.std.specs.Prelude.{◌≡◌, ◌⊎◌, ◌≤◌, ◌<◌, ℕ, None}
use Rattle.def_certtext.specs.CertLines.{used}
use Rattle.def_io.specs.Bytes.{Bytes}
use Rattle.def_io.specs.Lines.{lines_of, tail_of}
use Rattle.def_layout.specs.Arcs.{long_at}
use Rattle.def_layout.specs.Layouts.{Layout}
use Rattle.def_map.specs.MapText.{map_text}
use Rattle.def_remesh.specs.NewPoints.{lengths_in, multiple_of}
use Rattle.def_remesh.specs.Refined.{refined_faces, refined_text}
use Rattle.def_remesh.specs.Refusals.{IsTangledAt}
use Rattle.def_remesh.specs.Tasks.{Task}
use Rattle.def_remesh.specs.declared.limits.TheConstants.{MAX_NEW_FACES}
use Rattle.def_text.specs.FaceSet.{FaceSet}
use Rattle.def_run.specs.Check.{head_of}
use Rattle.def_run.specs.Coarse.{AsksToMerge}
use Rattle.def_run.specs.Crease.{AsksToCrease, RefusesToCrease}
use Rattle.def_run.specs.Fit.{AsksForNearFit, RefusesFit}
use Rattle.def_run.specs.Judging.{DifferFrom, IsReason, Judged}
use Rattle.def_run.specs.MarkLines.{front_of, HasNoMark, IsLastMark, IsMarkLine}
use Rattle.def_run.specs.Mesh.{IsMeshText, IsNoMesh}
use Rattle.def_run.specs.Refine.{RefusesToRefine, WritesRefined}
use Rattle.def_run.specs.Remesh.{Asks, AsksToRemesh, HasTracedLayout, HasTask, RefusesTask, WritesFinished}
use Rattle.def_run.specs.Size.{AsksForNearSize, RefusesSize}
use Rattle.def_run.specs.declared.answer.Answer.{Answer}
use Rattle.def_run.specs.declared.answer.Answer.TheVariants.{NotAccepted, TooFine, Doubled}
use Rattle.def_run.specs.declared.answer.Why.{Why}
use Rattle.def_run.specs.declared.answer.Why.TheVariants as why
use Rattle.def_run.specs.declared.command.Command.{Command}
use Rattle.def_run.specs.declared.command.Command.TheVariants.{Refine, Remesh, Crease, Size, Coarse, Fit}

-- What a command that finds least lengths asks for.
abbrev pub asks_of : (command : Command) → Asks
asks_of (Remesh settings auto) = AsksToRemesh settings auto
asks_of (Crease settings) = AsksToCrease settings
asks_of (Size edge floor) = AsksForNearSize edge floor
asks_of (Coarse settings) = AsksToMerge settings
asks_of (Fit fit) = AsksForNearFit fit
asks_of _ = λ bytes soup task. ⊥

-- The text of a new mesh that a command writes for the text of a mesh.
abbrev pub WritesNew : (command : Command) (front text : Bytes) → Type 0
WritesNew (Refine by) front text = WritesRefined by front text
WritesNew command front text = WritesFinished (asks_of command) front text

-- The map of a text that `refine` wrote.
abbrev pub refined_map : (by : ℕ) (front text : Bytes) (said : WritesRefined by front text) → Bytes
refined_map by front text said =
    map_text said.soup said.refined.layout None (multiple_of by (long_at said.refined.layout.arcs))

-- The map of the text of a finished task.
abbrev pub finished_map : (asks : Asks) (front text : Bytes) (said : WritesFinished asks front text) → Bytes
finished_map asks front text said =
    map_text said.soup said.shown.finished.layout said.task.shares
    (lengths_in (used said.shown.finished.certificates).x)

-- A command wrote the text of a new mesh, and this is its map: of the same layout with the same lengths and spacing.
abbrev pub IsMapOf : (command : Command) (front text : Bytes) (said : WritesNew command front text) (map : Bytes)
    → Type 0
IsMapOf (Refine by) front text said map = map ≡ refined_map by front text said
IsMapOf (Remesh settings auto) front text said map = map ≡ finished_map (AsksToRemesh settings auto) front text said
IsMapOf (Crease settings) front text said map = map ≡ finished_map (AsksToCrease settings) front text said
IsMapOf (Size edge floor) front text said map = map ≡ finished_map (AsksForNearSize edge floor) front text said
IsMapOf (Coarse settings) front text said map = map ≡ finished_map (AsksToMerge settings) front text said
IsMapOf (Fit fit) front text said map = map ≡ finished_map (AsksForNearFit fit) front text said
IsMapOf _ front text said map = ⊥

-- For these bytes it writes this text. The last line that begins as a head line does is that of a command; from it on
-- the bytes are a text which this command writes for the bytes before it; and the text is the map of that new mesh.
pub record WritesMap (bytes text : Bytes) : Type 0 where
  pub line : ℕ
  pub divided : IsLastMark (lines_of bytes) line
  pub command : Command
  pub mark : IsMarkLine (head_of bytes line) command
  pub written : WritesNew command (front_of line bytes) (tail_of line bytes)
  pub said : IsMapOf command (front_of line bytes) (tail_of line bytes) written text

-- The bytes have a map.
abbrev pub HasMap : (bytes : Bytes) → Type 0
HasMap bytes = (text : Bytes) × WritesMap bytes text

-- The bytes before the last such line have no mesh.
pub record IsNoFront (bytes : Bytes) (answer : Answer) : Type 0 where
  pub line : ℕ
  pub divided : IsLastMark (lines_of bytes) line
  pub none : IsNoMesh (front_of line bytes) answer

-- They have a mesh, with this soup.
pub record HasFront (bytes : Bytes) (line : ℕ) (soup : FaceSet) : Type 0 where
  pub divided : IsLastMark (lines_of bytes) line
  pub mesh : IsMeshText (front_of line bytes) soup

-- They have a mesh, and the line is that of no command.
pub record HasNoMarkLine (bytes : Bytes) : Type 0 where
  pub line : ℕ
  pub soup : FaceSet
  pub front : HasFront bytes line soup
  pub none : (command : Command) → ¬ IsMarkLine (head_of bytes line) command

-- They have a mesh, and the line is that of this command.
pub record IsHeadedBy (bytes : Bytes) (line : ℕ) (command : Command) : Type 0 where
  pub soup : FaceSet
  pub front : HasFront bytes line soup
  pub mark : IsMarkLine (head_of bytes line) command

-- The answer with which a command that writes a new mesh refuses the text of a mesh.
abbrev pub RefusesNew : (command : Command) (front : Bytes) (answer : Answer) → Type 0
RefusesNew (Refine by) front answer = RefusesToRefine by front answer
RefusesNew (Crease settings) front answer = RefusesToCrease settings front answer
RefusesNew (Size edge floor) front answer = RefusesSize edge floor front answer
RefusesNew (Fit fit) front answer = RefusesFit fit front answer
RefusesNew command front answer = RefusesTask (asks_of command) front answer

-- The command of the line refuses the bytes before it.
pub record IsRefusedFront (bytes : Bytes) (answer : Answer) : Type 0 where
  pub line : ℕ
  pub command : Command
  pub headed : IsHeadedBy bytes line command
  pub said : RefusesNew command (front_of line bytes) answer

-- Why a text is not that of a mesh which is refined so: that mesh has too many faces, or its text is another one.
abbrev pub IsNotRefined : (by : ℕ) (soup : FaceSet) (layout : Layout) (text : Bytes) (why : Why) → Type 0
IsNotRefined by soup layout text (why.TooFine faces) = (faces ≡ refined_faces by layout) × (MAX_NEW_FACES < faces)
IsNotRefined by soup layout text (why.Byte at) =
    (refined_faces by layout ≤ MAX_NEW_FACES) × DifferFrom text (refined_text by soup layout) at
IsNotRefined by soup layout text _ = ⊥

-- The bytes from the line on are no text that `refine` writes for those before it.
pub record IsUnrefined (by : ℕ) (front text : Bytes) (why : Why) : Type 0 where
  pub layout : Layout
  pub mesh : HasTracedLayout front layout
  pub reason : IsNotRefined by mesh.soup layout text why

-- They are no text of a task that is asked for.
pub record IsUnfinished (asks : Asks) (bytes : Bytes) (line : ℕ) (why : Why) : Type 0 where
  pub task : Task
  pub layout : Layout
  pub mesh : HasTask asks (front_of line bytes) task layout
  pub untangled : (count : ℕ) → ¬ IsTangledAt task.wish layout task.settings count
  pub reason : IsReason (record { bytes = bytes; line = line; soup = mesh.soup; layout = layout; task = task }) why

-- They are no text that the command writes for those before it.
abbrev pub IsUnlike : (command : Command) (bytes : Bytes) (line : ℕ) (why : Why) → Type 0
IsUnlike (Refine by) bytes line why = IsUnrefined by (front_of line bytes) (tail_of line bytes) why
IsUnlike command bytes line why = IsUnfinished (asks_of command) bytes line why

-- The bytes have a line of a command, which does not write what stands from it on.
pub record HasOtherText (bytes : Bytes) (why : Why) : Type 0 where
  pub line : ℕ
  pub command : Command
  pub headed : IsHeadedBy bytes line command
  pub unlike : IsUnlike command bytes line why

-- Why nothing is accepted.
abbrev pub IsNoNewText : (bytes : Bytes) (why : Why) → Type 0
IsNoNewText bytes why.NoHead = HasNoMark (lines_of bytes)
IsNoNewText bytes why.Head = HasNoMarkLine bytes
IsNoNewText bytes why = HasOtherText bytes why

-- What the answer says of the bytes. Lengths are judged and not found, so what they show is told as what is not
-- accepted.
abbrev pub IsNoMap : (bytes : Bytes) (answer : Answer) → Type 0
IsNoMap bytes (NotAccepted why) = IsNoNewText bytes why
IsNoMap bytes (TooFine faces kept) = ⊥
IsNoMap bytes (Doubled u v cert) = ⊥
IsNoMap bytes answer = IsNoFront bytes answer ⊎ IsRefusedFront bytes answer

-- It refuses these bytes with this answer: it is true, and they have no map.
abbrev pub RefusesToMap : (bytes : Bytes) (answer : Answer) → Type 0
RefusesToMap bytes answer = IsNoMap bytes answer × (¬ HasMap bytes)
