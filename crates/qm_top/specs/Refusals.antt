-- Refusals of the steps of a run: the answers that they become, and what they say of the streams.
use Rattle.std.specs.Prelude.{◌≡◌, ◌≢◌, ℕ, List, [], ⊤}
use Rattle.def_io.specs.Moves.{Change}
use Rattle.def_marks.specs.declared.fail.MarkFail.{MarkFail}
use Rattle.def_marks.specs.declared.fail.MarkFail.TheVariants as marks
use Rattle.def_mesh.specs.Faults.{IsFirstFault}
use Rattle.def_metric.specs.declared.fail.SizeFail.{SizeFail}
use Rattle.def_metric.specs.declared.fail.SizeFail.TheVariants as sizes
use Rattle.def_mesh.specs.Manifold.{IsManifold}
use Rattle.def_mesh.specs.declared.Place.{Place}
use Rattle.def_text.specs.FaceSet.{FaceSet}
use Rattle.def_text.specs.Input.{IsSoupFail, ReadSoup}
use Rattle.def_text.specs.declared.limits.TheConstants.{MAX_BYTES}
use Rattle.def_text.specs.declared.refusal.ObjFail.{ObjFail}
use Rattle.def_text.specs.declared.refusal.ObjFail.TheVariants as obj
use Rattle.def_text.specs.declared.refusal.SoupFail.{SoupFail}
use Rattle.def_text.specs.declared.refusal.SoupFail.TheVariants as soup
use Rattle.def_text.specs.declared.refusal.Which.TheVariants.{Bytes}
use Rattle.def_remesh.specs.declared.kept.LayoutFail.{LayoutFail}
use Rattle.def_remesh.specs.declared.kept.LayoutFail.TheVariants as layouts
use Rattle.def_run.specs.Causes.{Cause, Wrote}
use Rattle.def_run.specs.Messages.{AreNames}
use Rattle.def_run.specs.Reread.{Rereads}
use Rattle.def_run.specs.declared.answer.Answer.{Answer}
use Rattle.def_run.specs.declared.answer.Answer.TheVariants.{Usage, Syntax, NotQuad, Range, Limit, ReadFault}
use Rattle.def_run.specs.declared.answer.Answer.TheVariants.{WriteFault, Memory}
use Rattle.def_run.specs.declared.answer.Answer.TheVariants as answers
use Rattle.def_run.specs.declared.command.Command.{Command}
use Rattle.def_run.specs.declared.words.WordsFail.{WordsFail}
use Rattle.def_run.specs.declared.words.WordsFail.TheVariants as words
use Rattle.qm_top.specs.declared.refusal.Refusal.{Refusal}
use Rattle.qm_top.specs.declared.refusal.Refusal.TheVariants.{NotAccepted, Soup, NotManifold, Marks, Layout, Far, Write}
use Rattle.qm_top.specs.declared.refusal.Refusal.TheVariants as refusals

-- The answer to words that are no command.
abbrev pub answer_of_words : (fail : WordsFail) → Answer
answer_of_words words.Usage = Usage
answer_of_words words.Memory = Memory

-- The answer to a text that has no soup.
abbrev pub answer_of_obj : (fail : ObjFail) → Answer
answer_of_obj (obj.Syntax line) = Syntax line
answer_of_obj (obj.NotQuad line corners) = NotQuad line corners
answer_of_obj (obj.Range line) = Range line
answer_of_obj (obj.Limit which line) = Limit which line
answer_of_obj obj.Memory = Memory

-- The answer to a source that gives no soup.
abbrev pub answer_of_soup : (fail : SoupFail) → Answer
answer_of_soup soup.Fault = ReadFault
answer_of_soup soup.TooLong = Limit Bytes 0
answer_of_soup (soup.Obj fail) = answer_of_obj fail
answer_of_soup soup.Memory = Memory

-- The answer to `l` lines that mark no edges.
abbrev pub answer_of_marks : (fail : MarkFail) → Answer
answer_of_marks (marks.Syntax line) = Syntax line
answer_of_marks (marks.Range line) = Range line
answer_of_marks (marks.NotEdge line) = answers.NotEdge line
answer_of_marks marks.Memory = Memory

-- The answer to a layout that gives no new mesh.
abbrev pub answer_of_layout : (fail : LayoutFail) → Answer
answer_of_layout (layouts.Tangled count) = answers.Tangled count
answer_of_layout (layouts.TooFine faces kept) = answers.TooFine faces kept
answer_of_layout (layouts.Doubled u v cert) = answers.Doubled u v cert
answer_of_layout layouts.Memory = Memory

-- The answer to a refusal.
abbrev pub answer_of : (refusal : Refusal) → Answer
answer_of (NotAccepted why) = answers.NotAccepted why
answer_of (Soup fail) = answer_of_soup fail
answer_of (NotManifold named) = answers.NotManifold named.place
answer_of (Marks fail) = answer_of_marks fail
answer_of (Layout fail) = answer_of_layout fail
answer_of (Far sum) = answers.Far sum
answer_of (Write fail) = WriteFault
answer_of refusals.Memory = Memory

-- The refusal of a layout that is not remeshed with edges of a given length.
abbrev pub refusal_of_size : (fail : SizeFail) → Refusal
refusal_of_size (sizes.Far sum) = Far sum
refusal_of_size (sizes.Layout fail) = Layout fail

-- The numbers in the file of the vertices that a refusal may name.
abbrev pub names_of : (refusal : Refusal) → List ℕ
names_of (NotManifold named) = named.names.items
names_of _ = []

-- The source gave this soup, whose faces are no manifold, first at this place.
pub record ReadNoManifold (input : Change) (place : Place) (names : List ℕ) : Type 0 where
  pub soup : FaceSet
  pub read : ReadSoup MAX_BYTES input.told input.told_now soup
  pub fault : IsFirstFault soup.faces place
  pub refuted : ¬ IsManifold soup.faces
  pub named : names ≡ soup.names
  pub calm : input.faults_now ≡ input.faults

-- Why a soup is no mesh, where there is memory.
abbrev pub IsNoMeshOf : (soup : FaceSet) (refusal : Refusal) → Type 0
IsNoMeshOf soup (NotManifold named) =
    IsFirstFault soup.faces named.place × (¬ IsManifold soup.faces) × (named.names.items ≡ soup.names)
IsNoMeshOf soup refusals.Memory = ⊤
IsNoMeshOf soup _ = ⊥

-- Why the source gave no mesh.
abbrev pub IsInputRefusal : (input : Change) (refusal : Refusal) → Type 0
IsInputRefusal input (Soup fail) = IsSoupFail MAX_BYTES input fail
IsInputRefusal input (NotManifold named) = ReadNoManifold input named.place named.names.items
IsInputRefusal input refusals.Memory = ⊤
IsInputRefusal input _ = ⊥

-- A command's text was written, which is read again, and the source had no fault.
pub record Finished (command : Command) (input out : Change) : Type 0 where
  pub wrote : Wrote command input out
  pub read : Rereads command wrote.bytes wrote.text wrote.said
  pub calm : input.faults_now ≡ input.faults

-- A command ended with a refusal that has its cause, and with the numbers of the file.
pub record Ended (command : Command) (input out : Change) (refusal : Refusal) : Type 0 where
  pub cause : Cause command input out (answer_of refusal)
  pub names : AreNames command input (answer_of refusal) (names_of refusal)
  pub calm : answer_of refusal ≢ ReadFault → answer_of refusal ≢ Memory → input.faults_now ≡ input.faults
