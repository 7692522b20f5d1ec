-- What a text is judged by: the mesh in front of it, the layout of its cut, and the network and the frame of a task.
use Rattle.std.specs.Prelude.{◌≡◌, ◌≢◌, ◌≤◌, ◌<◌, ◌∷◌, ◌++◌, ℕ, ◌+◌, Bool, true, List, Option, Ok, Err, []}
use Rattle.std.specs.Prelude.{drop, length, take, ⊤}
use Rattle.std.specs.List.{list_all}
use Rattle.std.specs.Option.{option_map}
use Rattle.def_certtext.specs.Reading.{HasBadLine}
use Rattle.def_certtext.specs.Risings.{may_rise}
use Rattle.def_certtext.specs.Settings.{AreInRange}
use Rattle.def_certtext.specs.declared.certs.Rising.{Rising}
use Rattle.def_cut.specs.FullCut.{IsFullCut}
use Rattle.def_fit.specs.FitTasks.{asides_in, kept_text}
use Rattle.def_fit.specs.declared.fit.Fit.{Fit}
use Rattle.def_flow.specs.Network.{network}
use Rattle.def_io.specs.Bytes.{Bytes}
use Rattle.def_io.specs.Lines.{lines_of, tail_of}
use Rattle.def_io.specs.declared.TheConstants.{LINE_FEED}
use Rattle.def_layout.specs.FaceLayouts.{IsCutLayout}
use Rattle.def_layout.specs.Lengths.{Lengths}
use Rattle.def_layout.specs.Layouts.{Layout}
use Rattle.def_marks.specs.declared.fail.MarkFail.TheVariants as marks
use Rattle.def_mesh.specs.Faults.{IsFirstFault}
use Rattle.def_mesh.specs.Manifold.{IsManifold}
use Rattle.def_remesh.specs.CutSoups.{CutSoup}
use Rattle.def_remesh.specs.Keeping.{IsNetFor}
use Rattle.def_remesh.specs.Tasks.{Task}
use Rattle.def_remesh.specs.TextLaws.{IsSolid}
use Rattle.def_run.specs.Mesh.{IsMeshText}
use Rattle.def_run.specs.declared.answer.Why.TheVariants as why
use Rattle.def_run.specs.declared.check_fail.CheckFail.{CheckFail}
use Rattle.def_run.specs.declared.check_fail.CheckFail.TheVariants.{NotAccepted, Old, NotManifold, Marks, Memory}
use Rattle.def_text.specs.FaceSet.{FaceSet}
use Rattle.def_text.specs.Text.{soup_in}
use Rattle.def_text.specs.declared.limits.TheConstants.{MAX_V_LINES}
use Rattle.def_text.specs.declared.refusal.ObjFail.TheVariants as obj
use Rattle.qm_certtext.specs.declared.last.HeadAt.{HeadAt}
use Rattle.qm_check.specs.declared.ready.Frame.{Frame}
use Rattle.qm_check.specs.declared.ready.Ready.{Ready}
use Rattle.qm_obj.proofs.LawText.{is_inside}

-- A line of the bytes begins there.
pub record CutsAt (bytes : Bytes) (head : HeadAt) : Type 0 where
  pub there : head.line < length (lines_of bytes)
  pub within : head.at ≤ length bytes
  pub old : lines_of (take head.at bytes) ≡ take head.line (lines_of bytes)
  pub written : drop head.at bytes ≡ tail_of head.line bytes

-- The text has this soup, whose faces are a manifold, and which can be written.
pub record IsOld (text : Bytes) (soup : FaceSet) : Type 0 where
  pub mesh : IsMeshText text soup
  pub solid : IsSolid soup
  pub few : length soup.pos ≤ MAX_V_LINES

-- Why a text has no mesh, where there is memory.
abbrev pub IsNoOld : (text : Bytes) (fail : CheckFail) → Type 0
IsNoOld text (Old fail) = (fail ≢ obj.Memory) × (soup_in text ≡ Err fail)
IsNoOld text (NotManifold place soup) =
    (soup_in text ≡ Ok soup) × IsFirstFault soup.faces place × (¬ IsManifold soup.faces)
IsNoOld text Memory = ⊤
IsNoOld text _ = ⊥

-- The marks whose lines stand in a text.
abbrev pub marks_of : (frame : Frame) → Option (List Bool)
marks_of frame = option_map (λ marks. marks.items) frame.marks

-- A mesh that is cut as a task asks, in the frame of its text.
pub record IsLaidOut (task : Task) (cut : CutSoup) (frame : Frame) : Type 0 where
  pub solid : IsSolid cut.soup
  pub full : IsFullCut cut.soup.faces task.marks
  pub laid : IsCutLayout cut.soup.faces task.marks cut.layout
  pub range : AreInRange task.settings (may_rise task.rising)
  pub terms : frame.terms ≡ record { settings = task.settings; rising = task.rising }
  pub head : frame.head.items ≡ task.head ++ LINE_FEED ∷ []
  pub inside : list_all is_inside task.head ≡ true
  pub between : (layout : Layout) (new : Lengths) → task.between layout new ≡ kept_text (marks_of frame) layout new
  pub shares : task.shares ≡ frame.shares

-- The same with the network of the task.
pub record IsReady (task : Task) (ready : Ready) : Type 0 where
  pub laid_out : IsLaidOut task ready.cut ready.frame
  pub net : IsNetFor task.wish ready.cut.layout task.settings (network ready.net)

-- Why the lines behind a head line tell nothing: one of them is bad.
abbrev pub TellsNothing : (rising : Rising) (bytes : Bytes) (line : ℕ) (fail : CheckFail) → Type 0
TellsNothing rising bytes line (NotAccepted (why.CertLine bad)) =
    HasBadLine rising (line + 2) (drop (line + 1) (lines_of bytes)) bad
TellsNothing rising bytes line Memory = ⊤
TellsNothing rising bytes line _ = ⊥

-- Why a line beside the mesh of a text is refused, where there is memory.
abbrev pub IsAsideFail : (fit : Fit) (text : Bytes) (soup : FaceSet) (fail : CheckFail) → Type 0
IsAsideFail fit text soup (Marks fail) = (fail ≢ marks.Memory) × (asides_in fit text soup ≡ Err fail)
IsAsideFail fit text soup Memory = ⊤
IsAsideFail fit text soup _ = ⊥
