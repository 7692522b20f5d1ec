-- What is wrong with the text of a task that stands behind the text of its mesh, as its certificates show.
use Rattle.std.specs.Prelude.{◌≡◌, ◌≢◌, ◌⊎◌, ◌+◌, ◌-◌, ◌<◌, ℕ, ℤ, List, drop, take}
use Rattle.def_certtext.specs.CertLines.{alone, raised, risen, used, Certificates, Lists}
use Rattle.def_certtext.specs.Reading.{HasBadLine, TellCerts}
use Rattle.def_certtext.specs.declared.certs.Rise.{Rise}
use Rattle.def_flow.specs.Accepted.{cert_verdict}
use Rattle.def_flow.specs.Network.{Network}
use Rattle.def_flow.specs.declared.cert.CertVerdict.{CertVerdict}
use Rattle.def_flow.specs.declared.cert.CertVerdict.TheVariants as certs
use Rattle.def_flow.specs.declared.limits.TheConstants.{MAX_FLOOR}
use Rattle.def_flow.specs.declared.net.Settings.{Settings}
use Rattle.def_io.specs.Bytes.{Bytes, Lines}
use Rattle.def_io.specs.Lines.{lines_of, tail_of}
use Rattle.def_layout.specs.Lengths.{Lengths}
use Rattle.def_layout.specs.Layouts.{Layout, gluing_of}
use Rattle.def_layoutnet.specs.LayoutNet.{IsNetOf}
use Rattle.def_remesh.specs.NewPoints.{lengths_in}
use Rattle.def_remesh.specs.Certified.{AreKept, certificate_of, IsCertified, IsDoubling}
use Rattle.def_remesh.specs.Refusals.{AreTooFine}
use Rattle.def_remesh.specs.Remeshed.{AreCoarse, finished_text}
use Rattle.def_remesh.specs.Rises.{risen_floors, AreNeeded}
use Rattle.def_remesh.specs.Tasks.{given_floors, old_lengths, Task, Wish}
use Rattle.def_text.specs.FaceSet.{FaceSet}
use Rattle.def_written.specs.Edges.{IsFirstDoubled, IsUndoubled}
use Rattle.def_run.specs.declared.answer.Why.{Why}
use Rattle.def_run.specs.declared.answer.Why.TheVariants as why

-- A text that is judged: all bytes, the number of the line from which on they are that text, the mesh in front of it
-- with a layout, and the task that it is to finish.
pub record Judged : Type 0 where
  pub bytes : Bytes
  pub line : ℕ
  pub soup : FaceSet
  pub layout : Layout
  pub task : Task

-- The text itself.
abbrev pub text_in : (judged : Judged) → Bytes
text_in judged = tail_of judged.line judged.bytes

-- Its lines behind the head line.
abbrev pub behind_in : (judged : Judged) → Lines
behind_in judged = drop (judged.line + 1) (lines_of judged.bytes)

-- The verdict on a certificate for a layout with these wished lengths, settings and floors.
pub record HasVerdict
    (wish : Wish) (layout : Layout) (settings : Settings) (floors : Lengths) (cert : Lists) (verdict : CertVerdict)
    : Type 0 where
  pub net : Network
  pub of_layout : IsNetOf (gluing_of layout) (old_lengths layout) (wish layout) settings floors net
  pub told : verdict ≡ cert_verdict net (certificate_of cert)
  pub refuted : (d : ℤ) → verdict ≢ certs.Yes d

-- What is wrong with a certificate for these floors: its verdict, or that its lengths give too many faces.
abbrev pub IsWrong :
    (wish : Wish) (layout : Layout) (settings : Settings) (floors : Lengths) (cert : Lists) (why : Why) → Type 0
IsWrong wish layout settings floors cert (why.Verdict verdict) = HasVerdict wish layout settings floors cert verdict
IsWrong wish layout settings floors cert (why.TooFine faces) =
    IsCertified wish layout settings floors cert × AreTooFine layout cert.x faces
IsWrong wish layout settings floors cert _ = ⊥

-- The only certificate is accepted, and its lengths double an edge, first at these vertices.
abbrev pub IsLoneDoubled :
    (wish : Wish) (layout : Layout) (settings : Settings) (floors : Lengths) (cert : Lists) (why : Why) → Type 0
IsLoneDoubled wish layout settings floors cert (why.Doubled u v) = IsCertified wish layout settings floors cert
    × AreCoarse layout cert.x × IsFirstDoubled (gluing_of layout) (lengths_in cert.x) u v
IsLoneDoubled wish layout settings floors cert _ = ⊥

-- The floors that rise in the round of this number are not those that have to.
abbrev pub AreUnneeded : (layout : Layout) (first : Lists) (rises : List Rise) (round : ℕ) (why : Why) → Type 0
AreUnneeded layout first rises round (why.Rises number) =
    (number ≡ round) × (¬ AreNeeded (gluing_of layout) (lengths_in first.x) rises)
AreUnneeded layout first rises round _ = ⊥

-- What is wrong with the certificates from a round on that begins with these floors. Rounds count from 1.
abbrev pub AreWrong : (wish : Wish) (layout : Layout) (settings : Settings) (floors : Lengths) (round : ℕ)
    (certificates : Certificates) (why : Why) → Type 0
AreWrong wish layout settings floors round (alone cert) why =
    IsWrong wish layout settings floors cert why ⊎ IsLoneDoubled wish layout settings floors cert why
AreWrong wish layout settings floors round (raised first cert) why = IsWrong wish layout settings floors first why
    ⊎ (IsDoubling wish layout settings floors first × IsWrong wish layout settings (λ arc. MAX_FLOOR) cert why)
AreWrong wish layout settings floors round (risen first rises after) why = IsWrong wish layout settings floors first why
    ⊎ (IsDoubling wish layout settings floors first
    × (AreUnneeded layout first rises (round + 1) why
    ⊎ (AreNeeded (gluing_of layout) (lengths_in first.x) rises
    × AreWrong wish layout settings (risen_floors rises floors) (round + 1) after why)))

-- The first certificate of these.
abbrev pub first_of : (certificates : Certificates) → Lists
first_of (alone cert) = cert
first_of (raised first cert) = first
first_of (risen first rises after) = first

-- These are the others up to one of them, or all of them.
abbrev pub AreFront : (certificates others : Certificates) → Type 0
AreFront (alone cert) others = cert ≡ first_of others
AreFront (raised first cert) others = others ≡ raised first cert
AreFront (risen first rises after) others =
    (more : Certificates) × (others ≡ risen first rises more) × AreFront after more

-- From this byte on, which counts from 1, the texts differ.
pub record DifferFrom (one other : Bytes) (at : ℕ) : Type 0 where
  pub counted : 0 < at
  pub before : take (at - 1) one ≡ take (at - 1) other
  pub there : take at one ≢ take at other

-- The certificates are those of a finished task, whose text is another one from this byte on.
pub record IsOtherText (judged : Judged) (told : Certificates) (at : ℕ) : Type 0 where
  pub certificates : Certificates
  pub front : AreFront certificates told
  pub kept : AreKept judged.task.wish judged.layout judged.task.settings judged.task.rising certificates
  pub coarse : AreCoarse judged.layout (used certificates).x
  pub undoubled : IsUndoubled (gluing_of judged.layout) (lengths_in (used certificates).x)
  pub differ : DifferFrom (text_in judged) (finished_text judged.task judged.soup judged.layout certificates) at

-- The text is not that of the certificates that it tells.
abbrev pub TellsOtherText : (judged : Judged) (told : Certificates) (why : Why) → Type 0
TellsOtherText judged told (why.Byte at) = IsOtherText judged told at
TellsOtherText judged told _ = ⊥

-- The first thing that is wrong with a text that tells certificates.
pub record IsWrongText (judged : Judged) (why : Why) : Type 0 where
  pub told : Certificates
  pub tells : TellCerts judged.task.rising (behind_in judged) told
  pub wrong : AreWrong judged.task.wish judged.layout judged.task.settings (given_floors judged.task.settings) 1 told
      why
      ⊎ TellsOtherText judged told why

-- The first thing that is wrong behind a head line.
abbrev pub IsReason : (judged : Judged) (why : Why) → Type 0
IsReason judged (why.CertLine line) = HasBadLine judged.task.rising (judged.line + 2) (behind_in judged) line
IsReason judged why = IsWrongText judged why
