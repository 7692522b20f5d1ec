-- What shows that lengths are least: certificates that are accepted.
use Rattle.def_certtext.specs.CertLines.{Certificates, Lists}
use Rattle.def_certtext.specs.declared.certs.Rising.{Rising}
use Rattle.def_flow.specs.Accepted.{Certificate, IsAccepted}
use Rattle.def_flow.specs.declared.net.Settings.{Settings}
use Rattle.def_io.specs.Bytes.{Bytes}
use Rattle.def_layout.specs.Lengths.{Lengths}
use Rattle.def_layout.specs.Layouts.{Layout}
use Rattle.def_text.specs.FaceSet.{FaceSet}
use Rattle.def_remesh.specs.Remeshed.{AreKeptBy, HasLeastLengths, IsDoublingBy, IsFinished}
use Rattle.def_remesh.specs.Tasks.{given_floors, Task, Wish}

-- The lists of a certificate, as the checker takes them. A text says four lists; the last three are the dual, which the
-- checker of matchings takes without the lengths.
abbrev pub certificate_of : (lists : Lists) → Certificate
certificate_of lists = record { x = lists.x; dual = record { y = lists.y; z = lists.z; up = lists.up } }

-- A certificate that is accepted for its network, so that its lengths are least.
pub record IsCertified
    (wish : Wish) (layout : Layout) (settings : Settings) (floors : Lengths) (cert : Lists)
    : Type 0 where
  pub lengths : HasLeastLengths wish layout settings floors cert
  pub accepted : IsAccepted lengths.net (certificate_of cert)

-- Such a certificate, whose lengths double an edge of a new mesh with few faces.
abbrev pub IsDoubling : (wish : Wish) (layout : Layout) (settings : Settings) (floors : Lengths) (cert : Lists) → Type 0
IsDoubling wish layout settings floors cert = IsDoublingBy (IsCertified wish layout settings) layout floors cert

-- The accepted certificates of a remesh.
abbrev pub AreKept :
    (wish : Wish) (layout : Layout) (settings : Settings) (rising : Rising) (certificates : Certificates) → Type 0
AreKept wish layout settings rising certificates =
    AreKeptBy (IsCertified wish layout settings) layout (given_floors settings) rising certificates

-- A task that is finished for a soup, as accepted certificates show.
pub record IsShown (task : Task) (soup : FaceSet) (text : Bytes) : Type 0 where
  pub finished : IsFinished task soup text
  pub certified : AreKept task.wish finished.layout task.settings task.rising finished.certificates
