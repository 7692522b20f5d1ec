-- Lists of a certificate in the making.
use Rattle.std.specs.Prelude.{◌≡◌, ◌++◌, ℕ, not, Bool, true, false, Option, Some, None, List, [], ◌∷◌, map, ⊤}
use Rattle.std.specs.List.{after_first, before_first, filter, flat_map, list_all, list_any}
use Rattle.def_io.specs.Bytes.{Bytes, Lines}
use Rattle.def_certtext.specs.CertLines.{line_text, risen_by, Lists}
use Rattle.def_certtext.specs.Reading.{certificates_by, is_hash_line, is_third, length_in, may_stand, set_in, set_up_in}
use Rattle.def_certtext.specs.Reading.{vertex_in, vertex_up_in, Says}
use Rattle.def_certtext.specs.Rounds.{parts_of}
use Rattle.def_certtext.specs.declared.CertFail.{CertFail}
use Rattle.def_certtext.specs.declared.CertFail.TheVariants.{Head, Line, Memory}
use Rattle.def_certtext.specs.declared.CertLine.{CertLine}
use Rattle.def_certtext.specs.declared.CertLine.TheVariants.{Rise}
use Rattle.def_certtext.specs.declared.certs.Rising.{Rising}
use Rattle.def_certtext.specs.declared.certs.Rising.TheVariants.{Rounds}
use Rattle.qm_certtext.specs.declared.parts.Found.{Found}
use Rattle.qm_certtext.specs.declared.parts.Parts.{Parts}

-- The certificate that the parts make.
abbrev pub lists_in_parts : (parts : Parts) → Lists
lists_in_parts parts = record {
  x = parts.lengths.items;
  y = parts.vertices.items;
  z = parts.sets.items;
  up = parts.vertex_ups.items ++ parts.set_ups.items;
}

-- The lists of these lines.
pub record Holds (parts : Parts) (said : List CertLine) : Type 0 where
  pub lengths : parts.lengths.items ≡ flat_map length_in said
  pub vertices : parts.vertices.items ≡ flat_map vertex_in said
  pub vertex_ups : parts.vertex_ups.items ≡ flat_map vertex_up_in said
  pub sets : parts.sets.items ≡ flat_map set_in said
  pub set_ups : parts.set_ups.items ≡ flat_map set_up_in said

-- The certificate before the first `#f 3`, and the one behind it or the only one.
abbrev pub HoldBoth : (first : Option Parts) (last : Parts) (said : List CertLine) → Type 0
HoldBoth None last said = (list_any is_third said ≡ false) × Holds last said
HoldBoth (Some first) last said =
    (list_any is_third said ≡ true) × Holds first (before_first is_third said) × Holds last (after_first is_third said)

-- Whether a line raises a floor.
abbrev pub is_rise : (line : CertLine) → Bool
is_rise (Rise rise) = true
is_rise _ = false

-- The first of these lines raises none.
abbrev pub begins_plain : (said : List CertLine) → Bool
begins_plain [] = true
begins_plain (line ∷ said) = not (is_rise line)

-- Rounds, the lines of the last certificate, and the floors that rise behind it: whatever lines are behind them, these
-- say the same certificates.
pub record HoldRounds (found : Found) (said : List CertLine) : Type 0 where
  pub lines : List CertLine
  pub plain : list_any is_rise lines ≡ false
  pub holds : Holds found.last lines
  pub same : (more : List CertLine) → certificates_by (parts_of (said ++ more))
      ≡ risen_by found.rounds.items (certificates_by (parts_of (lines ++ (map Rise found.rises.items ++ more))))

-- The same where no floor rises behind the last certificate, and none at first in what is behind.
pub record HoldEnded (found : Found) (said : List CertLine) : Type 0 where
  pub lines : List CertLine
  pub plain : list_any is_rise lines ≡ false
  pub holds : Holds found.last lines
  pub none : found.rises.items ≡ []
  pub same : (more : List CertLine) → begins_plain more ≡ true → certificates_by (parts_of (said ++ more))
      ≡ risen_by found.rounds.items (certificates_by (parts_of (lines ++ more)))

-- What was found says what lines say.
abbrev pub HoldSome : (rising : Rising) (found : Found) (said : List CertLine) → Type 0
HoldSome Rounds found said = HoldRounds found said
HoldSome _ found said = HoldBoth found.first found.last said

-- The last round is ended.
abbrev pub EndsRound : (old new : Found) → Type 0
EndsRound old new = (said : List CertLine) → HoldRounds old said → HoldEnded new said

-- One line more.
abbrev pub TakesLine : (rising : Rising) (old new : Found) (line : CertLine) → Type 0
TakesLine rising old new line =
    (said : List CertLine) → HoldSome rising old said → HoldSome rising new (said ++ line ∷ [])

-- What the first lines behind a head line say, where floors rise so.
pub record ReadSome (rising : Rising) (behind : Lines) (found : Found) : Type 0 where
  pub said : List CertLine
  pub texts : filter is_hash_line behind ≡ map line_text said
  pub allowed : list_all (may_stand rising) said ≡ true
  pub holds : HoldSome rising found said

-- The next line, where it was read.
abbrev pub TakesText : (rising : Rising) (line : Bytes) (old new : Found) → Type 0
TakesText rising line old new =
    (behind : Lines) → ReadSome rising behind old → ReadSome rising (behind ++ line ∷ []) new

-- Why a line of this number was not read.
abbrev pub IsLineFail : (rising : Rising) (line : Bytes) (number : ℕ) (fail : CertFail) → Type 0
IsLineFail rising line number Head = ⊥
IsLineFail rising line number (Line n) =
    (n ≡ number) × (is_hash_line line ≡ true) × ((said : CertLine) → ¬ Says rising line said)
IsLineFail rising line number Memory = ⊤
