-- The lines of rounds, in parts: those of a certificate, and the floors that rise for its lengths.
use Rattle.std.specs.Prelude.{◌==◌, cond, List, [], ◌∷◌, length}
use Rattle.def_certtext.specs.declared.CertLine.{CertLine}
use Rattle.def_certtext.specs.declared.CertLine.TheVariants as lines
use Rattle.def_certtext.specs.declared.certs.Rise.{Rise}

-- Lines that raise no floor, and the floors that rise behind them.
pub record Part : Type 0 where
  pub said : List CertLine
  pub rises : List Rise

-- A rise in front of parts: in front of lines it is a part of its own.
abbrev pub put_rise : (rise : Rise) (parts : List Part) → List Part
put_rise rise [] = record { said = []; rises = rise ∷ [] } ∷ []
put_rise rise (part ∷ parts) =
    cond (length part.said == 0) (record part { rises = rise ∷ part.rises } ∷ parts)
    (record { said = []; rises = rise ∷ [] } ∷ part ∷ parts)

-- Any other line in front of parts.
abbrev pub put_line : (line : CertLine) (parts : List Part) → List Part
put_line line [] = record { said = line ∷ []; rises = [] } ∷ []
put_line line (part ∷ parts) = record part { said = line ∷ part.said } ∷ parts

-- The parts of lines.
abbrev pub parts_of : (said : List CertLine) → List Part
parts_of [] = []
parts_of (lines.Rise rise ∷ said) = put_rise rise (parts_of said)
parts_of (line ∷ said) = put_line line (parts_of said)
