-- The settings of a remesh: how they are written, and the values that may be asked for.
use Rattle.std.specs.Prelude.{◌≡◌, ◌≤◌, ℕ, Bool, true, if◌then◌else◌, ◌∷◌, ◌++◌, codes, decimal}
use Rattle.def_io.specs.Bytes.{Bytes}
use Rattle.def_text.specs.Types.{Word}
use Rattle.def_text.specs.declared.letters.TheConstants.{SLASH}
use Rattle.def_text.specs.declared.limits.TheConstants.{MAX_PART}
use Rattle.def_flow.specs.declared.limits.TheConstants.{MAX_FLOOR}
use Rattle.def_flow.specs.declared.net.Settings.{Settings}
use Rattle.def_flow.specs.declared.net.Weight.{Weight}
use Rattle.def_flow.specs.declared.net.Weight.TheVariants.{Plain, Length}

-- The scale, as it was given.
abbrev pub scale_text : (settings : Settings) → Bytes
scale_text settings = decimal settings.p ++ SLASH ∷ decimal settings.q

-- How a floor is written: a chosen one as `auto`.
abbrev pub floor_text : (floor : ℕ) (auto : Bool) → Bytes
floor_text floor auto = if auto then codes "auto" else decimal floor

-- How the weights are named.
abbrev pub weight_text : (weight : Weight) → Bytes
weight_text Plain = codes "plain"
weight_text Length = codes "length"

-- A floor that may be asked for. `auto` begins with floor 1, which rises where the lengths double an edge.
pub record IsFloor (floor : ℕ) (auto : Bool) : Type 0 where
  pub low : 1 ≤ floor
  pub high : floor ≤ MAX_FLOOR
  pub at_first : auto ≡ true → floor ≡ 1

-- Settings that may be asked for.
pub record AreInRange (settings : Settings) (auto : Bool) : Type 0 where
  pub p_low : 1 ≤ settings.p
  pub p_high : settings.p ≤ MAX_PART
  pub q_low : 1 ≤ settings.q
  pub q_high : settings.q ≤ MAX_PART
  pub floor : IsFloor settings.floor auto

-- The words of these settings, which may be asked for.
pub record AreWordsOf (scale floor weight : Word) (settings : Settings) (auto : Bool) : Type 0 where
  pub scaled : scale ≡ scale_text settings
  pub bounded : floor ≡ floor_text settings.floor auto
  pub weighed : weight ≡ weight_text settings.weight
  pub in_range : AreInRange settings auto
