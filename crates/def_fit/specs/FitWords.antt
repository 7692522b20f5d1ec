-- The words of a fit, as options and as a head line.
use Rattle.std.specs.Prelude.{◌≡◌, ◌≤ℤ◌, ℤ, ◌∷◌, ◌++◌, codes, decimal, pos}
use Rattle.def_certtext.specs.Settings.{floor_text, weight_text}
use Rattle.def_io.specs.Bytes.{Bytes}
use Rattle.def_patches.specs.declared.Keep.{Keep}
use Rattle.def_patches.specs.declared.Keep.TheVariants as keeps
use Rattle.def_patches.specs.declared.Patches.{Patches}
use Rattle.def_patches.specs.declared.Patches.TheVariants.{Traced, Merged, Conforming}
use Rattle.def_text.specs.Canonical.{micro_text}
use Rattle.def_text.specs.Decimal.{IsValue}
use Rattle.def_text.specs.Types.{Word}
use Rattle.def_text.specs.declared.letters.TheConstants.{SLASH}
use Rattle.def_fit.specs.Aims.{IsFit}
use Rattle.def_fit.specs.declared.fit.Aim.{Aim}
use Rattle.def_fit.specs.declared.fit.Aim.TheVariants.{Scale, Edge, Wishes}
use Rattle.def_fit.specs.declared.fit.Fit.{Fit}
use Rattle.def_fit.specs.declared.fit.Spacing.{Spacing}
use Rattle.def_fit.specs.declared.fit.Spacing.TheVariants.{Even, Wished}

-- Which lines are kept.
abbrev pub keep_word : (keep : Keep) → Word
keep_word keeps.Nothing = codes "none"
keep_word keeps.Lines = codes "lines"

-- How the patches come about.
abbrev pub patches_word : (patches : Patches) → Word
patches_word Traced = codes "traced"
patches_word Merged = codes "merged"
patches_word Conforming = codes "conforming"

-- How new points are spaced.
abbrev pub spacing_word : (spacing : Spacing) → Word
spacing_word Even = codes "even"
spacing_word Wished = codes "wished"

-- An aim as it is written: the scale as it was given, a length as it stands in a canonical text.
abbrev pub aim_text : (aim : Aim) → Bytes
aim_text (Scale p q) = codes "scale:" ++ decimal p ++ SLASH ∷ decimal q
aim_text (Edge edge) = codes "edge:" ++ micro_text edge
aim_text Wishes = codes "lines"

-- The head line.
abbrev pub fit_head : (fit : Fit) → Bytes
fit_head fit =
    codes "#quadq 1 fit keep " ++ keep_word fit.keep ++ codes " patches " ++ patches_word fit.patches
    ++ codes " aim " ++ aim_text fit.aim ++ codes " floor " ++ floor_text fit.floor fit.auto
    ++ codes " weight " ++ weight_text fit.weight ++ codes " spacing " ++ spacing_word fit.spacing

-- The word is a decimal with so many millionths, at least one.
pub record IsEdgeLength (word : Word) (edge : ℤ) : Type 0 where
  pub value : IsValue word edge
  pub low : pos 1 ≤ℤ edge

-- The word asks for this aim. Any decimal is a length.
abbrev pub IsAimWord : (word : Word) (aim : Aim) → Type 0
IsAimWord word (Edge edge) = (length : Word) × (word ≡ codes "edge:" ++ length) × IsEdgeLength length edge
IsAimWord word aim = word ≡ aim_text aim

-- These words ask for this fit.
pub record AreFitWords (keep patches aim floor weight spacing : Word) (fit : Fit) : Type 0 where
  pub kept : keep ≡ keep_word fit.keep
  pub cut : patches ≡ patches_word fit.patches
  pub aimed : IsAimWord aim fit.aim
  pub bounded : floor ≡ floor_text fit.floor fit.auto
  pub weighed : weight ≡ weight_text fit.weight
  pub spaced : spacing ≡ spacing_word fit.spacing
  pub in_range : IsFit fit
