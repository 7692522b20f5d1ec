-- What is written reads back: the head line and the certificate lines of a written text are those that it was made of.
use Rattle.std.specs.Prelude.{◌≡◌, ◌^◌, ◌<◌, ◌↔◌, Bool, true, IsTrue, List, [], ◌∷◌, ◌++◌, drop, length, map}
use Rattle.std.specs.Prelude.{slice_index_or}
use Rattle.std.specs.List.{list_all}
use Rattle.def_io.specs.Bytes.{Bytes}
use Rattle.def_io.specs.Lines.{lines_of}
use Rattle.def_io.specs.declared.TheConstants.{LINE_FEED}
use Rattle.def_mesh.specs.Vertices.{names_below}
use Rattle.def_text.specs.Canonical.{canonical_text}
use Rattle.def_text.specs.FaceSet.{FaceSet}
use Rattle.def_text.specs.Laws.{is_position, is_quad}
use Rattle.def_flow.specs.declared.net.Settings.{Settings}
use Rattle.def_certtext.specs.CertLines.{alone, raised, risen, said_by, text_of, used, Certificates, HasUps, Lists}
use Rattle.def_certtext.specs.HeadLine.{head_line}
use Rattle.def_certtext.specs.Reading.{may_stand, may_tell, Made, TellHow}
use Rattle.def_certtext.specs.Risings.{third_if}
use Rattle.def_certtext.specs.Settings.{AreInRange}
use Rattle.def_certtext.specs.declared.CertLine.{CertLine}
use Rattle.def_certtext.specs.declared.CertLine.TheVariants.{Floor, Rise as rise_line}
use Rattle.def_certtext.specs.declared.certs.Rising.{Rising}
use Rattle.def_certtext.specs.declared.certs.Rising.TheVariants.{Never, Third, Rounds}

-- A mesh that can be written: its numbers are those of the types of a soup.
pub record IsPrintable (soup : FaceSet) : Type 0 where
  pub positions : IsTrue (list_all is_position soup.pos)
  pub quads : IsTrue (list_all is_quad soup.faces)
  pub corners : IsTrue (names_below (2 ^ 32) soup.faces)

-- A certificate that can be written: its lines may stand, and each vertex and each set has its `up`.
pub record IsWritableCert (lists : Lists) : Type 0 where
  pub ups : HasUps lists
  pub allowed : list_all (may_stand Never) (said_by lists) ≡ true

-- Certificates that can be written where floors rise so: those of a round have lengths, and some floors rise behind it.
abbrev pub AreWritable : (rising : Rising) (certificates : Certificates) → Type 0
AreWritable rising (alone cert) = IsWritableCert cert
AreWritable rising (raised first cert) = (rising ≡ Third) × IsWritableCert first × IsWritableCert cert
AreWritable rising (risen first rises after) =
    (rising ≡ Rounds) × IsWritableCert first × (0 < length first.x) × (0 < length rises)
    × (list_all (may_tell Rounds) rises ≡ true) × AreWritable rising after

-- The lines of certificates behind the line that names the first floor.
abbrev pub chosen_lines : (certificates : Certificates) → List CertLine
chosen_lines (alone cert) = said_by cert
chosen_lines (raised first cert) = said_by first ++ Floor 3 ∷ said_by cert
chosen_lines (risen first rises after) = said_by first ++ (map rise_line rises ++ chosen_lines after)

-- The lines of certificates: where floors rise, they begin with the floor of the first.
abbrev pub certificate_lines : (rising : Rising) (certificates : Certificates) → List CertLine
certificate_lines Never certificates = said_by (used certificates)
certificate_lines _ certificates = Floor 1 ∷ chosen_lines certificates

-- A text of a mesh and certificates, behind some head line.
abbrev pub made_text : (head : Bytes) (rising : Rising) (soup : FaceSet) (certificates : Certificates) → Bytes
made_text head rising soup certificates =
    head ++ LINE_FEED ∷ (canonical_text soup ++ text_of (certificate_lines rising certificates))

-- A text whose first line is the head line tells that it was made so, and not otherwise.
abbrev pub TellsOnly : (text : Bytes) (made : Made) → Type 0
TellsOnly text made =
    (other : Made) → TellHow (slice_index_or (lines_of text) 0 []) (drop 1 (lines_of text)) other ↔ (other ≡ made)

-- The text of a remesh tells its settings and its certificates, and no others.
abbrev pub WrittenLaw : Type 0
WrittenLaw =
    (settings : Settings) (auto : Bool) (soup : FaceSet) (certificates : Certificates) → AreInRange settings auto
    → IsPrintable soup → AreWritable (third_if auto) certificates
    → TellsOnly (made_text (head_line settings auto) (third_if auto) soup certificates)
    (record { settings = settings; auto = auto; certificates = certificates })
