-- The lines that say which command wrote a new mesh, and the text in front of the last one.
use Rattle.std.specs.Prelude.{◌≡◌, ◌≤◌, ℕ, Bool, false, nat_eq, ◌++◌, codes, decimal, take}
use Rattle.std.specs.Prelude.{ℤ, pos, ◌≤ℤ◌, unsigned_abs}
use Rattle.std.specs.List.{flat_map, starts_with}
use Rattle.def_certtext.specs.HeadLine.{HasNoLine, IsLastLine}
use Rattle.def_certtext.specs.Reading.{IsHead}
use Rattle.def_certtext.specs.Settings.{AreInRange}
use Rattle.def_fit.specs.Aims.{IsFit}
use Rattle.def_fit.specs.FitWords.{fit_head}
use Rattle.def_fit.specs.declared.fit.Fit.{Fit as AnyFit}
use Rattle.def_flow.specs.declared.limits.TheConstants.{MAX_FLOOR}
use Rattle.def_flow.specs.declared.net.Settings.{Settings}
use Rattle.def_io.specs.Bytes.{Bytes, Lines}
use Rattle.def_io.specs.Lines.{pieces}
use Rattle.def_text.specs.Types.{Word}
use Rattle.def_text.specs.declared.limits.TheConstants.{MAX_MICRO}
use Rattle.def_run.specs.Heads.{named_head}
use Rattle.def_run.specs.Size.{size_head}
use Rattle.def_run.specs.declared.command.Command.{Command}
use Rattle.def_run.specs.declared.command.Command.TheVariants.{Refine, Remesh, Crease, Size, Coarse, Fit}
use Rattle.def_run.specs.declared.command.TheConstants.{MAX_MULTIPLE}

-- A line that begins as the head line of a new mesh does.
abbrev pub begins_mark : (line : Bytes) → Bool
begins_mark line = starts_with nat_eq line (codes "#quadq 1 ")

-- Line i is the last of these that begins so.
abbrev pub IsLastMark : (lines : Lines) (i : ℕ) → Type 0
IsLastMark lines i = IsLastLine begins_mark lines i

-- No line begins so.
abbrev pub HasNoMark : (lines : Lines) → Type 0
HasNoMark lines = HasNoLine begins_mark lines

-- All bytes before the first of line `i`.
abbrev pub front_of : (i : ℕ) (bytes : Bytes) → Bytes
front_of i bytes = flat_map (λ piece. piece) (take i (pieces bytes))

-- The head line of `refine`, without its end, for a multiple that may be asked for.
pub record IsRefineHead (line : Bytes) (by : ℕ) : Type 0 where
  pub written : line ≡ codes "#quadq 1 refine by " ++ decimal by
  pub low : 1 ≤ by
  pub high : by ≤ MAX_MULTIPLE

-- The head line of the command of this name, with settings that may be asked for.
pub record IsNamedHead (name : Word) (line : Bytes) (settings : Settings) : Type 0 where
  pub written : line ≡ named_head name settings
  pub in_range : AreInRange settings false

-- The head line of `size`, for a length and a floor that may be asked for.
pub record IsSizeHead (line : Bytes) (edge : ℤ) (floor : ℕ) : Type 0 where
  pub written : line ≡ size_head edge floor
  pub low : pos 1 ≤ℤ edge
  pub near : unsigned_abs edge ≤ MAX_MICRO
  pub floor_low : 1 ≤ floor
  pub floor_high : floor ≤ MAX_FLOOR

-- The head line of `fit`, for a fit that may be asked for.
pub record IsFitHead (line : Bytes) (fit : AnyFit) : Type 0 where
  pub written : line ≡ fit_head fit
  pub in_range : IsFit fit

-- The line is the head line of this command, one of those that write a new mesh.
abbrev pub IsMarkLine : (line : Bytes) (command : Command) → Type 0
IsMarkLine line (Refine by) = IsRefineHead line by
IsMarkLine line (Remesh settings auto) = IsHead line settings auto
IsMarkLine line (Crease settings) = IsNamedHead (codes "crease") line settings
IsMarkLine line (Size edge floor) = IsSizeHead line edge floor
IsMarkLine line (Coarse settings) = IsNamedHead (codes "coarse") line settings
IsMarkLine line (Fit fit) = IsFitHead line fit
IsMarkLine line _ = ⊥
