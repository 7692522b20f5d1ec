-- What `check` means for a remesh: the last head line divides its input into an old text and the text of a remesh.
use Rattle.std.specs.Prelude.{◌≡◌, ℕ, Bool, Ok, Err, [], length, take, slice_index_or}
use Rattle.def_certtext.specs.CertLines.{used}
use Rattle.def_certtext.specs.HeadLine.{HasNoHead, IsLastHead}
use Rattle.def_certtext.specs.Reading.{IsHead}
use Rattle.def_flow.specs.Admissible.{deviation, entries}
use Rattle.def_flow.specs.Network.{Network}
use Rattle.def_flow.specs.declared.net.Settings.{Settings}
use Rattle.def_io.specs.Bytes.{Bytes}
use Rattle.def_io.specs.Lines.{lines_of}
use Rattle.def_layout.specs.Layouts.{Layout, gluing_of}
use Rattle.def_layoutnet.specs.LayoutNet.{IsNetOf}
use Rattle.def_mesh.specs.Faults.{IsFirstFault}
use Rattle.def_mesh.specs.Manifold.{IsManifold}
use Rattle.def_mesh.specs.declared.Place.{Place}
use Rattle.def_remesh.specs.Checked.{IsCheckedPair}
use Rattle.def_remesh.specs.NewPoints.{lengths_in}
use Rattle.def_remesh.specs.Refusals.{IsTangledAt}
use Rattle.def_remesh.specs.Tasks.{old_lengths, remesh_task}
use Rattle.def_text.specs.FaceSet.{FaceSet}
use Rattle.def_text.specs.Text.{text_soup}
use Rattle.def_text.specs.declared.refusal.ObjFail.{ObjFail}
use Rattle.def_text.specs.declared.refusal.ObjFail.TheVariants as obj_fail
use Rattle.def_written.specs.NewFaces.{face_count}
use Rattle.def_run.specs.Judging.{IsReason, Judged}
use Rattle.def_run.specs.Remesh.{IsTracedLayout}
use Rattle.def_run.specs.declared.answer.Answer.{Answer}
use Rattle.def_run.specs.declared.answer.Answer.TheVariants.{NotAccepted, Syntax, NotQuad, Range, Limit, NotManifold}
use Rattle.def_run.specs.declared.answer.Answer.TheVariants.{Tangled}
use Rattle.def_run.specs.declared.answer.Why.{Why}
use Rattle.def_run.specs.declared.answer.Why.TheVariants as why

-- A checked pair, with the numbers that are told of it.
pub record IsCountedPair (bytes : Bytes) (arcs faces deviates : ℕ) : Type 0 where
  pub pair : IsCheckedPair bytes
  pub arcs_told : arcs ≡ length pair.remeshed.layout.arcs
  pub faces_told : faces ≡ face_count (gluing_of pair.remeshed.layout) (lengths_in (used pair.remeshed.certificates).x)
  pub net : Network
  pub of_layout : IsNetOf (gluing_of pair.remeshed.layout) (old_lengths pair.remeshed.layout)
      (old_lengths pair.remeshed.layout) pair.settings (λ a. pair.settings.floor) net
  pub deviation_told : deviates ≡ deviation net (entries (used pair.remeshed.certificates).x)

-- The last line that begins as a head line does.
abbrev pub head_of : (bytes : Bytes) (line : ℕ) → Bytes
head_of bytes line = slice_index_or (lines_of bytes) line []

-- The old text, in front of that line, has this soup.
pub record HasOldSoup (bytes : Bytes) (line : ℕ) (soup : FaceSet) : Type 0 where
  pub divided : IsLastHead (lines_of bytes) line
  pub said : text_soup 1 (take line (lines_of bytes)) ≡ Ok soup

-- The old text is refused.
pub record RefusesOldText (bytes : Bytes) (refusal : ObjFail) : Type 0 where
  pub line : ℕ
  pub divided : IsLastHead (lines_of bytes) line
  pub said : text_soup 1 (take line (lines_of bytes)) ≡ Err refusal

-- The faces of the old text are no manifold, first at this place.
pub record IsNoOldManifold (bytes : Bytes) (place : Place) : Type 0 where
  pub line : ℕ
  pub soup : FaceSet
  pub old : HasOldSoup bytes line soup
  pub fault : IsFirstFault soup.faces place
  pub refuted : ¬ IsManifold soup.faces

-- The old text has a mesh, and the line behind it is no head line.
pub record HasNoHeadLine (bytes : Bytes) : Type 0 where
  pub line : ℕ
  pub soup : FaceSet
  pub old : HasOldSoup bytes line soup
  pub manifold : IsManifold soup.faces
  pub headless : (settings : Settings) (auto : Bool) → ¬ IsHead (head_of bytes line) settings auto
  pub refuted : ¬ IsCheckedPair bytes

-- The old text has a mesh that is cut to a layout, and the head line behind it has these settings.
pub record IsAsked (bytes : Bytes) : Type 0 where
  pub line : ℕ
  pub soup : FaceSet
  pub old : HasOldSoup bytes line soup
  pub manifold : IsManifold soup.faces
  pub settings : Settings
  pub auto : Bool
  pub head : IsHead (head_of bytes line) settings auto
  pub layout : Layout
  pub cut : IsTracedLayout soup.faces layout

-- The text behind its head line, which is judged as that of a remesh of its mesh.
abbrev pub judged_of : (bytes : Bytes) (asked : IsAsked bytes) → Judged
judged_of bytes asked = record {
  bytes = bytes;
  line = asked.line;
  soup = asked.soup;
  layout = asked.layout;
  task = remesh_task asked.settings asked.auto asked.soup.faces;
}

-- The bytes are no checked pair, for this reason.
pub record IsNoPair (bytes : Bytes) (why : Why) : Type 0 where
  pub asked : IsAsked bytes
  pub untangled : (count : ℕ) → ¬ IsTangledAt old_lengths asked.layout asked.settings count
  pub reason : IsReason (judged_of bytes asked) why
  pub refuted : ¬ IsCheckedPair bytes

-- Why nothing is accepted.
abbrev pub IsNotAccepted : (bytes : Bytes) (why : Why) → Type 0
IsNotAccepted bytes why.NoHead = HasNoHead (lines_of bytes)
IsNotAccepted bytes why.Head = HasNoHeadLine bytes
IsNotAccepted bytes why = IsNoPair bytes why

-- The network of the old mesh is too tangled.
pub record IsTangledOld (bytes : Bytes) (count : ℕ) : Type 0 where
  pub asked : IsAsked bytes
  pub tangled : IsTangledAt old_lengths asked.layout asked.settings count
  pub refuted : ¬ IsCheckedPair bytes

-- It refuses these bytes with this answer.
abbrev pub RefusesPair : (bytes : Bytes) (answer : Answer) → Type 0
RefusesPair bytes (NotAccepted why) = IsNotAccepted bytes why
RefusesPair bytes (Syntax line) = RefusesOldText bytes (obj_fail.Syntax line)
RefusesPair bytes (NotQuad line corners) = RefusesOldText bytes (obj_fail.NotQuad line corners)
RefusesPair bytes (Range line) = RefusesOldText bytes (obj_fail.Range line)
RefusesPair bytes (Limit which line) = RefusesOldText bytes (obj_fail.Limit which line)
RefusesPair bytes (NotManifold place) = IsNoOldManifold bytes place
RefusesPair bytes (Tangled count) = IsTangledOld bytes count
RefusesPair bytes _ = ⊥
