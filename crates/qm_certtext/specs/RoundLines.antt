-- The lines of rounds, and the certificates that can be written.
use Rattle.std.specs.Prelude.{List, [], ◌∷◌, ◌++◌, map}
use Rattle.def_certtext.specs.CertLines.{alone, lists_of, raised, risen, said_by, Certificates, HasUps}
use Rattle.def_certtext.specs.declared.CertLine.{CertLine}
use Rattle.def_certtext.specs.declared.CertLine.TheVariants.{Rise}
use Rattle.def_certtext.specs.declared.certs.Round.{Round}

-- Those of the certificate of each, and the floors that rise behind it.
abbrev pub round_lines : (rounds : List Round) → List CertLine
round_lines [] = []
round_lines (round ∷ rounds) =
    said_by (lists_of round.cert) ++ (map Rise round.rises.items ++ round_lines rounds)

-- In each certificate each vertex and each set has its `up`.
abbrev pub HaveUps : (certificates : Certificates) → Type 0
HaveUps (alone cert) = HasUps cert
HaveUps (raised first cert) = HasUps first × HasUps cert
HaveUps (risen first rises after) = HasUps first × HaveUps after
