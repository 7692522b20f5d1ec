-- What certificates are checked to be.
use Rattle.std.specs.Prelude.{◌≡◌, ◌≢◌, ◌<◌, ◌≤◌, ◌^◌, ℕ, ℤ, List, length, slice_index, ⊤}
use Rattle.def_certtext.specs.CertLines.{alone, certificates_of, lists_of, raised, risen, used}
use Rattle.def_certtext.specs.CertLines.{Certificates, Lists}
use Rattle.def_certtext.specs.declared.certs.Rising.{Rising}
use Rattle.def_certtext.specs.declared.certs.Rising.TheVariants.{Third, Rounds}
use Rattle.def_certtext.specs.declared.certs.Round.{Round}
use Rattle.def_certtext.specs.declared.certs.Terms.{Terms}
use Rattle.def_flow.specs.Accepted.{certificate, cert_verdict}
use Rattle.def_flow.specs.Admissible.{deviation, entries}
use Rattle.def_flow.specs.Descent.{IsSolution}
use Rattle.def_flow.specs.Network.{arc_at, Network}
use Rattle.def_flow.specs.declared.cert.Cert.{Cert}
use Rattle.def_flow.specs.declared.cert.CertVerdict.TheVariants.{Yes}
use Rattle.def_flow.specs.declared.limits.TheConstants.{MAX_FLOOR, MAX_LENGTH}
use Rattle.def_flow.specs.declared.net.Settings.{Settings}
use Rattle.def_io.specs.Bytes.{Bytes}
use Rattle.def_layout.specs.Lengths.{Lengths as AnyLengths}
use Rattle.def_layout.specs.Layouts.{Layout, gluing_of}
use Rattle.def_matching.specs.Dual.{IsSmallDual}
use Rattle.def_remesh.specs.Keeping.{IsKept, IsNetFor, IsNetWith}
use Rattle.def_remesh.specs.NewPoints.{lengths_in}
use Rattle.def_remesh.specs.Refusals.{AreTooFine}
use Rattle.def_remesh.specs.Certified.{certificate_of, IsCertified}
use Rattle.def_remesh.specs.Remeshed.{AreCoarse}
use Rattle.def_remesh.specs.Tasks.{given_floors, Wish}
use Rattle.def_run.specs.Judging.{AreFront, AreUnneeded, AreWrong, DifferFrom}
use Rattle.def_run.specs.declared.answer.Why.TheVariants as why
use Rattle.def_written.specs.Edges.{IsFirstDoubled}
use Rattle.remesh_laws.specs.Keeps.{floors_behind, AreLed, IsNumbered}
use Rattle.def_run.specs.declared.check_fail.CheckFail.{CheckFail}
use Rattle.def_run.specs.declared.check_fail.CheckFail.TheVariants.{NotAccepted, Memory}
use Rattle.qm_check.specs.declared.certificates.Checked.{Checked}
use Rattle.qm_check.specs.declared.lengths.Lengths.{Lengths}
use Rattle.qm_check.specs.declared.lengths.Lengths.TheVariants.{Whole, Doubled}

-- A certificate whose numbers are within the limits of the checker.
pub record IsInReach (cert : Lists) : Type 0 where
  pub few : length cert.x < 2 ^ 32
  pub short : (k : ℕ) → k < length cert.x → slice_index cert.x k ≤ MAX_LENGTH
  pub small : IsSmallDual (certificate_of cert).dual

-- So are those of a text, and floors rise as it says.
abbrev pub AreInReach : (rising : Rising) (certificates : Certificates) → Type 0
AreInReach rising (alone cert) = IsInReach cert
AreInReach rising (raised first cert) = IsInReach first × IsInReach cert × (rising ≡ Third)
AreInReach rising (risen first rises after) = IsInReach first × AreInReach rising after × (rising ≡ Rounds)

-- A certificate that can be checked over a network: that of a layout with some floors.
pub record IsCheckable (layout : Layout) (net : Network) (cert : Lists) : Type 0 where
  pub wish : Wish
  pub settings : Settings
  pub floors : AnyLengths
  pub of_layout : IsNetWith wish layout settings floors net
  pub reach : IsInReach cert

-- Certificates of a text that can be checked: over that with the floors that are given.
pub record AreCheckable (layout : Layout) (net : Network) (terms : Terms) (told : Certificates) : Type 0 where
  pub wish : Wish
  pub of_layout : IsNetFor wish layout terms.settings net
  pub reach : AreInReach terms.rising told

-- Each arc has the greatest floor.
abbrev pub AreHighest : (net : Network) → Type 0
AreHighest net = (k : ℕ) → k < length net.arcs → MAX_FLOOR ≤ (arc_at net.arcs k).floor

-- What lengths give: a new mesh, or a doubled edge, which comes only where some floor is below the greatest.
abbrev pub Gives : (layout : Layout) (net : Network) (xs : List ℕ) (lengths : Lengths) → Type 0
Gives layout net xs (Whole numbering deviates) =
    IsNumbered layout xs numbering × (deviates ≡ deviation net (entries xs))
Gives layout net xs (Doubled u v) =
    AreCoarse layout xs × IsFirstDoubled (gluing_of layout) (lengths_in xs) u v × (¬ AreHighest net)

-- Why a certificate gives no lengths: its verdict, or that it is accepted and its lengths give too many faces.
abbrev pub GivesNone : (layout : Layout) (net : Network) (cert : Cert) (fail : CheckFail) → Type 0
GivesNone layout net cert (NotAccepted (why.Verdict verdict)) =
    (verdict ≡ cert_verdict net (certificate cert)) × ((d : ℤ) → verdict ≢ Yes d)
GivesNone layout net cert (NotAccepted (why.TooFine faces)) =
    IsSolution net (certificate cert) × AreTooFine layout cert.x.items faces
GivesNone layout net cert Memory = ⊤
GivesNone layout net cert _ = ⊥

-- Why the floors of a round are not raised: they do not have to rise.
abbrev pub IsNoRise : (layout : Layout) (before : Round) (number : ℕ) (fail : CheckFail) → Type 0
IsNoRise layout before number (NotAccepted why) =
    AreUnneeded layout (lists_of before.cert) before.rises.items number why
IsNoRise layout before number Memory = ⊤
IsNoRise layout before number _ = ⊥

-- Rounds of a text that are passed: their certificates are accepted and double an edge each, and the floors that rise
-- have to. The network has the floors behind them, and lists deviate as much there as in the first one.
pub record ArePassed
    (wish : Wish) (layout : Layout) (settings : Settings) (start : Network) (rounds : List Round) (net : Network)
    : Type 0 where
  pub led : AreLed (IsCertified wish layout settings) layout rounds (given_floors settings)
  pub risen : IsNetWith wish layout settings (floors_behind rounds (given_floors settings)) net
  pub even : (x : ℕ → ℤ) → deviation net x ≡ deviation start x

-- What is kept by the certificates of a text: those up to the ones that are used, the numbers of the new mesh, and the
-- deviation.
pub record IsChecked
    (wish : Wish) (layout : Layout) (net : Network) (terms : Terms) (told : Certificates) (checked : Checked)
    : Type 0 where
  pub kept : IsKept wish layout checked.remesh.terms.settings checked.remesh.terms.rising
      (certificates_of checked.remesh.certs) checked.remesh.numbering
  pub found : checked.remesh.terms ≡ terms
  pub front : AreFront (certificates_of checked.remesh.certs) told
  pub deviates : checked.deviation ≡ deviation net (entries (used (certificates_of checked.remesh.certs)).x)

-- Why the certificates of a text are not used.
abbrev pub IsUnused :
    (wish : Wish) (layout : Layout) (settings : Settings) (told : Certificates) (fail : CheckFail) → Type 0
IsUnused wish layout settings told (NotAccepted why) = AreWrong wish layout settings (given_floors settings) 1 told why
IsUnused wish layout settings told Memory = ⊤
IsUnused wish layout settings told _ = ⊥

-- The bytes are not this text.
abbrev pub IsDifference : (given text : Bytes) (fail : CheckFail) → Type 0
IsDifference given text (NotAccepted (why.Byte at)) = DifferFrom given text at
IsDifference given text Memory = ⊤
IsDifference given text _ = ⊥
