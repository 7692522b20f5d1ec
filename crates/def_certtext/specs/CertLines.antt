-- The lines of a certificate.
use Rattle.std.specs.Prelude.{◌≡◌, ℕ, ◌+◌, ℤ, List, [], ◌∷◌, ◌++◌, decimal, length, take, drop, map}
use Rattle.std.specs.List.{flat_map}
use Rattle.std.specs.Fmt.{signed_decimal}
use Rattle.def_io.specs.Bytes.{Bytes}
use Rattle.def_io.specs.declared.TheConstants.{LINE_FEED}
use Rattle.def_text.specs.declared.letters.TheConstants.{HASH, SPACE}
use Rattle.def_flow.specs.declared.cert.Cert.{Cert}
use Rattle.def_certtext.specs.declared.CertLine.{CertLine}
use Rattle.def_certtext.specs.declared.CertLine.TheVariants as lines
use Rattle.def_certtext.specs.declared.certs.Certs.{Certs}
use Rattle.def_certtext.specs.declared.certs.Certs.TheVariants.{Alone, Raised, Risen}
use Rattle.def_certtext.specs.declared.certs.Rise.{Rise}
use Rattle.def_certtext.specs.declared.certs.Round.{Round}
use Rattle.def_certtext.specs.declared.TheConstants.{FLOOR, LENGTH, RISE, SET, DUAL_VERTEX}

-- A certificate as its four lists.
pub record Lists : Type 0 where
  pub x : List ℕ
  pub y : List ℤ
  pub z : List ℤ
  pub up : List ℕ

-- The lists of a certificate.
abbrev pub lists_of : (cert : Cert) → Lists
lists_of cert = record { x = cert.x.items; y = cert.dual.y.items; z = cert.dual.z.items; up = cert.dual.up.items }

-- The certificates of a remesh: one alone, or one whose lengths double an edge, and another for floor 3, or the floors
-- that rise and the certificates for these.
pub data Certificates : Type 0 where
  alone : (cert : Lists) → Certificates
  raised : (first cert : Lists) → Certificates
  risen : (first : Lists) (rises : List Rise) (after : Certificates) → Certificates

-- The one whose lengths are used.
abbrev pub used : (certificates : Certificates) → Lists
used (alone cert) = cert
used (raised first cert) = cert
used (risen first rises after) = used after

-- Rounds in front of certificates.
abbrev pub risen_by : (rounds : List Round) (after : Certificates) → Certificates
risen_by [] after = after
risen_by (round ∷ rounds) after = risen (lists_of round.cert) round.rises.items (risen_by rounds after)

-- The certificates that the program holds.
abbrev pub certificates_of : (certs : Certs) → Certificates
certificates_of (Alone cert) = alone (lists_of cert)
certificates_of (Raised first cert) = raised (lists_of first) (lists_of cert)
certificates_of (Risen rounds cert) = risen_by rounds.items (alone (lists_of cert))

-- Each vertex and each set of the dual has its `up`.
abbrev pub HasUps : (lists : Lists) → Type 0
HasUps lists = length lists.up ≡ length lists.y + length lists.z

-- A number and its `up` behind this letter.
abbrev pub dual_line : (letter : ℕ) (number : ℤ) (up : ℕ) → Bytes
dual_line letter number up = HASH ∷ letter ∷ SPACE ∷ signed_decimal number ++ SPACE ∷ decimal up

-- A line without its end. Arcs count from 1.
abbrev pub line_text : (line : CertLine) → Bytes
line_text (lines.Length n) = HASH ∷ LENGTH ∷ SPACE ∷ decimal n
line_text (lines.Vertex number up) = dual_line DUAL_VERTEX number up
line_text (lines.Set number up) = dual_line SET number up
line_text (lines.Floor floor) = HASH ∷ FLOOR ∷ SPACE ∷ decimal floor
line_text (lines.Rise rise) = HASH ∷ RISE ∷ SPACE ∷ decimal (rise.arc + 1) ++ SPACE ∷ decimal rise.floor

-- Lines as a text, each with its end.
abbrev pub text_of : (said : List CertLine) → Bytes
text_of said = flat_map (λ line. line_text line ++ LINE_FEED ∷ []) said

-- A line for each number and its `up`.
abbrev pub dual_lines : (kind : ℤ → ℕ → CertLine) (numbers : List ℤ) (ups : List ℕ) → List CertLine
dual_lines kind [] ups = []
dual_lines kind (number ∷ numbers) [] = []
dual_lines kind (number ∷ numbers) (up ∷ ups) = kind number up ∷ dual_lines kind numbers ups

-- The lines of a certificate: first the arcs, then the vertices, then the sets.
abbrev pub said_by : (lists : Lists) → List CertLine
said_by lists =
    map lines.Length lists.x
    ++ dual_lines lines.Vertex lists.y (take (length lists.y) lists.up)
    ++ dual_lines lines.Set lists.z (drop (length lists.y) lists.up)

-- The same as a text.
abbrev pub cert_lines : (cert : Cert) → Bytes
cert_lines cert = text_of (said_by (lists_of cert))
