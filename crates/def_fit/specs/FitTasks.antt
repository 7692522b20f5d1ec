-- What `fit` asks of a mesh, with what the lines of its text say.
use Rattle.std.specs.Prelude.{ℕ, Bool, List, [], Option, Some, None, Result, Ok, Err}
use Rattle.std.specs.Result.{result_map_both}
use Rattle.def_certtext.specs.Risings.{rounds_if}
use Rattle.def_io.specs.Bytes.{Bytes}
use Rattle.def_layout.specs.Lengths.{Lengths}
use Rattle.def_layout.specs.Layouts.{Layout}
use Rattle.def_marks.specs.Lines.{marks_in}
use Rattle.def_marks.specs.MarkedText.{marked_text}
use Rattle.def_marks.specs.declared.fail.MarkFail.{MarkFail}
use Rattle.def_patches.specs.declared.Keep.{Keep}
use Rattle.def_patches.specs.declared.Keep.TheVariants as keeps
use Rattle.def_remesh.specs.Tasks.{Task}
use Rattle.def_text.specs.FaceSet.{FaceSet}
use Rattle.def_fit.specs.Aims.{aimed, fit_settings}
use Rattle.def_fit.specs.FitWords.{fit_head}
use Rattle.def_fit.specs.Shares.{shares_of}
use Rattle.def_fit.specs.WishLines.{wishes_in}
use Rattle.def_fit.specs.declared.fit.Aim.{Aim}
use Rattle.def_fit.specs.declared.fit.Aim.TheVariants.{Wishes}
use Rattle.def_fit.specs.declared.fit.Fit.{Fit}

-- What the lines of a text say beside its mesh: the marks that are kept, if any are, and a wish for each dart, if they
-- are what is aimed at.
pub record Asides : Type 0 where
  pub kept : Option (List Bool)
  pub wishes : List ℕ

-- The marks that are kept, where no `l` line is refused.
abbrev pub kept_in : (keep : Keep) (bytes : Bytes) (soup : FaceSet) → Result (Option (List Bool)) MarkFail
kept_in keeps.Nothing bytes soup = Ok None
kept_in keeps.Lines bytes soup = result_map_both Some (λ fail. fail) (marks_in bytes soup)

-- The wishes that are aimed at, where no `#w` line is refused.
abbrev pub wished_in : (aim : Aim) (bytes : Bytes) (soup : FaceSet) → Result (List ℕ) MarkFail
wished_in Wishes bytes soup = wishes_in bytes soup
wished_in _ bytes soup = Ok []

-- Both, or the first refusal: `l` lines are looked at first.
abbrev pub asides_by :
    (kept : Result (Option (List Bool)) MarkFail) (wishes : Result (List ℕ) MarkFail) → Result Asides MarkFail
asides_by (Err fail) wishes = Err fail
asides_by (Ok kept) (Err fail) = Err fail
asides_by (Ok kept) (Ok wishes) = Ok (record { kept = kept; wishes = wishes })

-- What a text says beside its mesh, as far as a fit asks for it, or the first line that is refused.
abbrev pub asides_in : (fit : Fit) (bytes : Bytes) (soup : FaceSet) → Result Asides MarkFail
asides_in fit bytes soup = asides_by (kept_in fit.keep bytes soup) (wished_in fit.aim bytes soup)

-- The lines behind the new mesh: those of the marked arcs, where marks are kept.
abbrev pub kept_text : (kept : Option (List Bool)) (layout : Layout) (new : Lengths) → Bytes
kept_text None layout new = []
kept_text (Some marks) layout new = marked_text marks layout new

-- A remesh of a soup over a cut, with the lengths that are aimed at.
abbrev pub fit_task : (fit : Fit) (soup : FaceSet) (asides : Asides) (cut : List Bool) → Task
fit_task fit soup asides cut = record {
  marks = cut;
  wish = aimed fit.aim soup asides.wishes;
  settings = fit_settings fit;
  rising = rounds_if fit.auto;
  head = fit_head fit;
  between = kept_text asides.kept;
  shares = shares_of fit soup asides.wishes cut;
}
