-- What `crease` means: a remesh that keeps the edges which the `l` lines of a text mark.
use Rattle.std.specs.Prelude.{◌≡◌, ◌⊎◌, List, Bool, None, Ok, Err, codes}
use Rattle.def_certtext.specs.declared.certs.Rising.TheVariants.{Never}
use Rattle.def_marks.specs.MarkedText.{marked_text}
use Rattle.def_marks.specs.Lines.{marks_in}
use Rattle.def_feature.specs.Marked.{marked_cut}
use Rattle.def_marks.specs.declared.fail.MarkFail.{MarkFail}
use Rattle.def_marks.specs.declared.fail.MarkFail.TheVariants as marks
use Rattle.def_flow.specs.declared.net.Settings.{Settings}
use Rattle.def_io.specs.Bytes.{Bytes, Told}
use Rattle.def_mesh.specs.Faces.{Faces}
use Rattle.def_remesh.specs.Tasks.{old_lengths, Task}
use Rattle.def_text.specs.FaceSet.{FaceSet}
use Rattle.def_run.specs.Heads.{named_head}
use Rattle.def_run.specs.Mesh.{IsMeshText}
use Rattle.def_run.specs.Remesh.{Asks, HasFinished, HoldsUntangled, RefusesTask}
use Rattle.def_run.specs.declared.answer.Answer.{Answer}
use Rattle.def_run.specs.declared.answer.Answer.TheVariants.{Syntax, Range, NotEdge}

-- A remesh of these faces over the cut that has the marked edges, with their lines behind the new mesh.
abbrev pub creased_task : (settings : Settings) (faces : Faces) (marks : List Bool) → Task
creased_task settings faces marks = record {
  marks = marked_cut faces marks;
  wish = old_lengths;
  settings = settings;
  rising = Never;
  head = named_head (codes "crease") settings;
  between = marked_text marks;
  shares = None;
}

-- `crease` asks for the edges that the text marks.
abbrev pub AsksToCrease : (settings : Settings) → Asks
AsksToCrease settings bytes soup task =
    (marks : List Bool) × (marks_in bytes soup ≡ Ok marks) × (task ≡ creased_task settings soup.faces marks)

-- The bytes have a mesh, and none of their `l` lines is refused.
pub record HasMarks (bytes : Bytes) : Type 0 where
  pub soup : FaceSet
  pub mesh : IsMeshText bytes soup
  pub marks : List Bool
  pub said : marks_in bytes soup ≡ Ok marks

-- The bytes have a mesh, and this is the first refusal of their `l` lines.
pub record HasMarkFail (bytes : Bytes) (fail : MarkFail) : Type 0 where
  pub soup : FaceSet
  pub mesh : IsMeshText bytes soup
  pub said : marks_in bytes soup ≡ Err fail

-- Why the `l` lines of a mesh mark no edges.
abbrev pub RefusesMarks : (bytes : Bytes) (answer : Answer) → Type 0
RefusesMarks bytes (Syntax line) = HasMarkFail bytes (marks.Syntax line)
RefusesMarks bytes (Range line) = HasMarkFail bytes (marks.Range line)
RefusesMarks bytes (NotEdge line) = HasMarkFail bytes (marks.NotEdge line)
RefusesMarks bytes _ = ⊥

-- It refuses these bytes with this answer: an `l` line is refused, or else what is asked of their mesh.
abbrev pub RefusesToCrease : (settings : Settings) (bytes : Bytes) (answer : Answer) → Type 0
RefusesToCrease settings bytes answer = RefusesMarks bytes answer ⊎ RefusesTask (AsksToCrease settings) bytes answer

-- The bytes have a mesh with marks, and what is asked of it is finished whatever least lists are kept.
pub record HasCreased (settings : Settings) (bytes : Bytes) : Type 0 where
  pub marks : HasMarks bytes
  pub finished : HasFinished (AsksToCrease settings) bytes

-- A source that holds the bytes of a mesh with marks, whose network is not too tangled.
pub record HoldsMarked (settings : Settings) (left : Told) : Type 0 where
  pub holds : HoldsUntangled (AsksToCrease settings) left
  pub marks : HasMarks holds.bytes
