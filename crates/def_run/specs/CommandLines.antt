-- The accepted command lines.
use Rattle.std.specs.Prelude.{◌≡◌, ◌≤◌, ℕ, Bool, false, [], ◌∷◌, codes, decimal, ℤ}
use Rattle.def_text.specs.Types.{Word, Words}
use Rattle.def_flow.specs.declared.limits.TheConstants.{MAX_FLOOR}
use Rattle.def_flow.specs.declared.net.Settings.{Settings}
use Rattle.def_certtext.specs.Settings.{AreWordsOf}
use Rattle.def_fit.specs.FitWords.{keep_word, patches_word, AreFitWords, IsEdgeLength}
use Rattle.def_fit.specs.declared.fit.Fit.{Fit as AnyFit}
use Rattle.def_patches.specs.declared.Keep.{Keep}
use Rattle.def_patches.specs.declared.Patches.{Patches}
use Rattle.def_run.specs.Options.{value_of, AreOptions, Uses}
use Rattle.def_run.specs.declared.command.Command.{Command}
use Rattle.def_run.specs.declared.command.Command.TheVariants.{Tidy, Graph, Refine, Remesh, Check, Bench, Crease, Size}
use Rattle.def_run.specs.declared.command.Command.TheVariants.{Coarse}
use Rattle.def_run.specs.declared.command.Command.TheVariants.{Blocks, Map, Fit, LayOut, Grids}
use Rattle.def_run.specs.declared.command.TheConstants.{MAX_MULTIPLE, MAX_SIZE}

-- The word of a command.
abbrev pub name_of : (command : Command) → Word
name_of Tidy = codes "tidy"
name_of Graph = codes "graph"
name_of (Refine by) = codes "refine"
name_of (Remesh settings auto) = codes "remesh"
name_of Check = codes "check"
name_of (Bench size) = codes "bench"
name_of (Crease settings) = codes "crease"
name_of (Size edge floor) = codes "size"
name_of (Coarse settings) = codes "coarse"
name_of (Blocks by) = codes "blocks"
name_of Map = codes "map"
name_of (Fit fit) = codes "fit"
name_of (LayOut keep patches) = codes "layout"
name_of (Grids keep patches by) = codes "grids"

-- The word is this whole number, from 1 to the greatest, in digits without a leading zero.
pub record IsCount (greatest : ℕ) (word : Word) (n : ℕ) : Type 0 where
  pub written : word ≡ decimal n
  pub low : 1 ≤ n
  pub high : n ≤ greatest

-- The words are this one option, with this number.
pub record HasCount (name : Word) (greatest : ℕ) (words : Words) (n : ℕ) : Type 0 where
  pub uses : Uses
  pub options : AreOptions (name ∷ []) words uses
  pub count : IsCount greatest (value_of name uses) n

-- The options of a remesh.
abbrev pub remesh_options : Words
remesh_options = codes "scale" ∷ codes "floor" ∷ codes "weight" ∷ []

-- The words are the options of a remesh, with these settings.
pub record HasSettings (words : Words) (settings : Settings) (auto : Bool) : Type 0 where
  pub uses : Uses
  pub options : AreOptions remesh_options words uses
  pub values : AreWordsOf (value_of (codes "scale") uses) (value_of (codes "floor") uses)
      (value_of (codes "weight") uses) settings auto

-- The options of `size`.
abbrev pub size_options : Words
size_options = codes "edge" ∷ codes "floor" ∷ []

-- The words are the options of `size`, with this length and this floor.
pub record HasEdge (words : Words) (edge : ℤ) (floor : ℕ) : Type 0 where
  pub uses : Uses
  pub options : AreOptions size_options words uses
  pub length : IsEdgeLength (value_of (codes "edge") uses) edge
  pub least : IsCount MAX_FLOOR (value_of (codes "floor") uses) floor

-- The options of `fit`.
abbrev pub fit_options : Words
fit_options =
    codes "keep" ∷ codes "patches" ∷ codes "aim" ∷ codes "floor" ∷ codes "weight" ∷ codes "spacing" ∷ []

-- The words are the options of `fit`, and ask for this fit.
pub record HasFitOptions (words : Words) (fit : AnyFit) : Type 0 where
  pub uses : Uses
  pub options : AreOptions fit_options words uses
  pub values : AreFitWords (value_of (codes "keep") uses) (value_of (codes "patches") uses)
      (value_of (codes "aim") uses) (value_of (codes "floor") uses) (value_of (codes "weight") uses)
      (value_of (codes "spacing") uses) fit

-- The options of `layout`.
abbrev pub layout_options : Words
layout_options = codes "keep" ∷ codes "patches" ∷ []

-- The words are the options of `layout`, and choose this cut.
pub record HasCutOptions (words : Words) (keep : Keep) (patches : Patches) : Type 0 where
  pub uses : Uses
  pub options : AreOptions layout_options words uses
  pub kept : value_of (codes "keep") uses ≡ keep_word keep
  pub cut : value_of (codes "patches") uses ≡ patches_word patches

-- The options of `grids`.
abbrev pub grids_options : Words
grids_options = codes "keep" ∷ codes "patches" ∷ codes "by" ∷ []

-- The words are the options of `grids`, and choose this cut and this multiple.
pub record HasGridsOptions (words : Words) (keep : Keep) (patches : Patches) (by : ℕ) : Type 0 where
  pub uses : Uses
  pub options : AreOptions grids_options words uses
  pub kept : value_of (codes "keep") uses ≡ keep_word keep
  pub cut : value_of (codes "patches") uses ≡ patches_word patches
  pub count : IsCount MAX_MULTIPLE (value_of (codes "by") uses) by

-- The words behind the word of a command are its options, each once.
abbrev pub HasOptions : (command : Command) (words : Words) → Type 0
HasOptions (Refine by) words = HasCount (codes "by") MAX_MULTIPLE words by
HasOptions (Remesh settings auto) words = HasSettings words settings auto
HasOptions (Bench size) words = HasCount (codes "size") MAX_SIZE words size
HasOptions (Crease settings) words = HasSettings words settings false
HasOptions (Size edge floor) words = HasEdge words edge floor
HasOptions (Coarse settings) words = HasSettings words settings false
HasOptions (Blocks by) words = HasCount (codes "by") MAX_MULTIPLE words by
HasOptions (Fit fit) words = HasFitOptions words fit
HasOptions (LayOut keep patches) words = HasCutOptions words keep patches
HasOptions (Grids keep patches by) words = HasGridsOptions words keep patches by
HasOptions command words = words ≡ []

-- These words, those after the program's name, are an accepted line of this command.
pub record IsCommand (words : Words) (command : Command) : Type 0 where
  pub rest : Words
  pub first : words ≡ name_of command ∷ rest
  pub options : HasOptions command rest

-- These words are an accepted line.
pub record IsAcceptedLine (words : Words) : Type 0 where
  pub command : Command
  pub line : IsCommand words command
