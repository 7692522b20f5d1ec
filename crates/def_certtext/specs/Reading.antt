-- What a written text says of how it was made.
use Rattle.std.specs.Prelude.{◌≡◌, ◌<◌, ◌^◌, ◌==◌, ◌&&◌, ◌||◌, ℕ, ℤ, ◌+◌, cond, nat_le, nat_lt, unsigned_abs, Bool}
use Rattle.std.specs.Prelude.{true, false, if◌then◌else◌, List, [], ◌∷◌, ◌++◌, length, map, slice_index_or, ⊤}
use Rattle.std.specs.List.{after_first, before_first, filter, flat_map, list_all, list_any}
use Rattle.def_io.specs.Bytes.{Bytes, Lines}
use Rattle.def_text.specs.declared.letters.TheConstants.{HASH}
use Rattle.def_flow.specs.declared.limits.TheConstants.{MAX_FLOOR, MAX_LENGTH}
use Rattle.def_flow.specs.declared.net.Settings.{Settings}
use Rattle.def_certtext.specs.CertLines.{alone, certificates_of, line_text, raised, risen, Certificates, Lists}
use Rattle.def_certtext.specs.HeadLine.{head_line}
use Rattle.def_certtext.specs.Risings.{third_if}
use Rattle.def_certtext.specs.Rounds.{parts_of, Part}
use Rattle.def_certtext.specs.Settings.{AreInRange}
use Rattle.def_certtext.specs.declared.CertFail.{CertFail}
use Rattle.def_certtext.specs.declared.CertFail.TheVariants as fails
use Rattle.def_certtext.specs.declared.CertLine.{CertLine}
use Rattle.def_certtext.specs.declared.CertLine.TheVariants as lines
use Rattle.def_matching.specs.declared.limits.TheConstants.{NUMBER_LIMIT}
use Rattle.def_certtext.specs.declared.Written.{Written}
use Rattle.def_certtext.specs.declared.certs.Rise.{Rise}
use Rattle.def_certtext.specs.declared.certs.Rising.{Rising}
use Rattle.def_certtext.specs.declared.certs.Rising.TheVariants.{Never, Third, Rounds}

-- The settings, and the certificates as their lists.
pub record Made : Type 0 where
  pub settings : Settings
  pub auto : Bool
  pub certificates : Certificates

-- The same of what was read.
abbrev pub made_of : (written : Written) → Made
made_of written = record {
  settings = written.asked.settings;
  auto = written.asked.auto;
  certificates = certificates_of written.certs;
}

-- The line is the head line of these settings, which may be asked for.
pub record IsHead (line : Bytes) (settings : Settings) (auto : Bool) : Type 0 where
  pub written : line ≡ head_line settings auto
  pub in_range : AreInRange settings auto

-- A number of at most 18 digits, and an `up` that fits.
abbrev pub is_small : (number : ℤ) (up : ℕ) → Bool
is_small number up = nat_lt (unsigned_abs number) NUMBER_LIMIT && nat_lt up (2 ^ 32)

-- The floor of a certificate that follows, as a line may name it.
abbrev pub may_name : (rising : Rising) (floor : ℕ) → Bool
may_name Never floor = false
may_name Third floor = (floor == 1) || (floor == 3)
may_name Rounds floor = floor == 1

-- A rise, as a line may tell it.
abbrev pub may_tell : (rising : Rising) (rise : Rise) → Bool
may_tell Rounds rise = nat_lt rise.arc (2 ^ 32) && nat_le rise.floor MAX_FLOOR
may_tell _ rise = false

-- A line that may stand where floors rise so.
abbrev pub may_stand : (rising : Rising) (line : CertLine) → Bool
may_stand rising (lines.Length n) = nat_le n MAX_LENGTH
may_stand rising (lines.Vertex number up) = is_small number up
may_stand rising (lines.Set number up) = is_small number up
may_stand rising (lines.Floor floor) = may_name rising floor
may_stand rising (lines.Rise rise) = may_tell rising rise

-- The text is this line, which may stand.
pub record Says (rising : Rising) (text : Bytes) (line : CertLine) : Type 0 where
  pub written : text ≡ line_text line
  pub allowed : may_stand rising line ≡ true

-- A line that begins with `#`.
abbrev pub is_hash_line : (line : Bytes) → Bool
is_hash_line [] = false
is_hash_line (byte ∷ _) = byte == HASH

-- What a line adds to the lists.
abbrev pub length_in : (line : CertLine) → List ℕ
length_in (lines.Length n) = n ∷ []
length_in _ = []

abbrev pub vertex_in : (line : CertLine) → List ℤ
vertex_in (lines.Vertex number up) = number ∷ []
vertex_in _ = []

abbrev pub vertex_up_in : (line : CertLine) → List ℕ
vertex_up_in (lines.Vertex number up) = up ∷ []
vertex_up_in _ = []

abbrev pub set_in : (line : CertLine) → List ℤ
set_in (lines.Set number up) = number ∷ []
set_in _ = []

abbrev pub set_up_in : (line : CertLine) → List ℕ
set_up_in (lines.Set number up) = up ∷ []
set_up_in _ = []

-- The lists of lines in any order: all `up` of vertices stand before those of sets.
abbrev pub lists_in : (said : List CertLine) → Lists
lists_in said = record {
  x = flat_map length_in said;
  y = flat_map vertex_in said;
  z = flat_map set_in said;
  up = flat_map vertex_up_in said ++ flat_map set_up_in said;
}

-- The line `#f 3`.
abbrev pub is_third : (line : CertLine) → Bool
is_third (lines.Floor floor) = floor == 3
is_third _ = false

-- The certificates of parts: where no floor rises behind a part, it is the last.
abbrev pub certificates_by : (parts : List Part) → Certificates
certificates_by [] = alone (lists_in [])
certificates_by (part ∷ parts) =
    cond (length part.rises == 0) (alone (lists_in part.said))
    (risen (lists_in part.said) part.rises (certificates_by parts))

-- The certificates of lines: those of their parts, or those before and behind the first `#f 3`, or the one of all.
abbrev pub certificates_in : (rising : Rising) (said : List CertLine) → Certificates
certificates_in Rounds said = certificates_by (parts_of said)
certificates_in _ said =
    if list_any is_third said then raised (lists_in (before_first is_third said)) (lists_in (after_first is_third said))
    else alone (lists_in said)

-- Those of the lines behind a head line that begin with `#` say these certificates, where floors rise so.
pub record TellCerts (rising : Rising) (behind : Lines) (certificates : Certificates) : Type 0 where
  pub said : List CertLine
  pub texts : filter is_hash_line behind ≡ map line_text said
  pub allowed : list_all (may_stand rising) said ≡ true
  pub are : certificates ≡ certificates_in rising said

-- A head line and the lines behind it say how the text was made.
pub record TellHow (head : Bytes) (behind : Lines) (made : Made) : Type 0 where
  pub settings : IsHead head made.settings made.auto
  pub certificates : TellCerts (third_if made.auto) behind made.certificates

-- Line k is the first of these that begins with `#` and is no certificate line.
pub record IsFirstBad (rising : Rising) (behind : Lines) (k : ℕ) : Type 0 where
  pub there : k < length behind
  pub marked : is_hash_line (slice_index_or behind k []) ≡ true
  pub bad : (line : CertLine) → ¬ Says rising (slice_index_or behind k []) line
  pub before : (j : ℕ) → j < k → is_hash_line (slice_index_or behind j []) ≡ true
      → (line : CertLine) × Says rising (slice_index_or behind j []) line

-- The first bad line has this number, where the first of all has another.
pub record HasBadLine (rising : Rising) (number : ℕ) (behind : Lines) (line : ℕ) : Type 0 where
  pub k : ℕ
  pub bad : IsFirstBad rising behind k
  pub told : line ≡ number + k

-- Why the lines do not say certificates, where the first has this number: it is never the head line.
abbrev pub IsBehindFail : (rising : Rising) (number : ℕ) (behind : Lines) (fail : CertFail) → Type 0
IsBehindFail rising number behind fails.Head = ⊥
IsBehindFail rising number behind (fails.Line line) = HasBadLine rising number behind line
IsBehindFail rising number behind fails.Memory = ⊤

-- Why a head line and the lines behind it do not say how the text was made.
abbrev pub IsCertFail : (head : Bytes) (number : ℕ) (behind : Lines) (fail : CertFail) → Type 0
IsCertFail head number behind fails.Head = (settings : Settings) (auto : Bool) → ¬ IsHead head settings auto
IsCertFail head number behind fail = (settings : Settings) × (auto : Bool) × IsHead head settings auto
    × IsBehindFail (third_if auto) number behind fail
