-- Why a layout is not remeshed, and which layouts are remeshed whatever least lists are kept.
use Rattle.std.specs.Prelude.{◌≡◌, ◌<◌, ℕ, List, length, ⊤}
use Rattle.def_certtext.specs.CertLines.{certificates_of, lists_of, used, Certificates}
use Rattle.def_certtext.specs.declared.certs.Rising.{Rising}
use Rattle.def_certtext.specs.declared.certs.Rising.TheVariants.{Never}
use Rattle.def_flow.specs.Admissible.{entries, IsLeast}
use Rattle.def_flow.specs.Network.{Network}
use Rattle.def_flow.specs.declared.cert.Cert.{Cert}
use Rattle.def_flow.specs.declared.limits.TheConstants.{MAX_FLOOR}
use Rattle.def_flow.specs.declared.net.Settings.{Settings}
use Rattle.def_layout.specs.Lengths.{Lengths}
use Rattle.def_layout.specs.Layouts.{Layout, gluing_of}
use Rattle.def_layoutnet.specs.LayoutNet.{IsNetOf, IsTangled}
use Rattle.def_written.specs.Edges.{IsFirstDoubled, IsUndoubled}
use Rattle.def_written.specs.NewFaces.{face_count}
use Rattle.def_remesh.specs.NewPoints.{lengths_in}
use Rattle.def_remesh.specs.Certified.{AreKept, IsCertified}
use Rattle.def_remesh.specs.Remeshed.{AreCoarse, AreKeptBy}
use Rattle.def_remesh.specs.Tasks.{given_floors, old_lengths, Wish}
use Rattle.def_remesh.specs.declared.kept.Kept.{Kept}
use Rattle.def_remesh.specs.declared.kept.Kept.TheVariants.{Multiple, Least}
use Rattle.def_remesh.specs.declared.kept.LayoutFail.{LayoutFail}
use Rattle.def_remesh.specs.declared.kept.LayoutFail.TheVariants as fail
use Rattle.def_remesh.specs.declared.limits.TheConstants.{MAX_NEW_FACES}

-- The network of a layout with these wished lengths has this tangle number, which is too great.
abbrev pub IsTangledAt : (wish : Wish) (layout : Layout) (settings : Settings) (count : ℕ) → Type 0
IsTangledAt wish layout settings count = IsTangled (gluing_of layout) (old_lengths layout) (wish layout) settings count

-- The lengths give so many faces, more than a new mesh may have.
abbrev pub AreTooFine : (layout : Layout) (lengths : List ℕ) (faces : ℕ) → Type 0
AreTooFine layout lengths faces = (faces ≡ face_count (gluing_of layout) (lengths_in lengths)) × (MAX_NEW_FACES < faces)

-- The kept lengths do so. They are shown to be least, and where they are for floors that rose all before them, too, by
-- accepted certificates.
abbrev pub IsFineBy :
    (wish : Wish) (layout : Layout) (settings : Settings) (rising : Rising) (faces : ℕ) (kept : Kept) → Type 0
IsFineBy wish layout settings rising faces (Multiple by) = ⊥
IsFineBy wish layout settings rising faces (Least certs) =
    AreKept wish layout settings rising (certificates_of certs)
    × AreTooFine layout (used (certificates_of certs)).x faces

-- The kept lengths double an edge, first at these vertices of the new mesh, where floors do not rise. With floor 3 none
-- does.
pub record IsDoubledBy
    (wish : Wish) (layout : Layout) (settings : Settings) (rising : Rising) (u v : ℕ) (cert : Cert)
    : Type 0 where
  pub given : rising ≡ Never
  pub low : settings.floor < MAX_FLOOR
  pub certified : IsCertified wish layout settings (given_floors settings) (lists_of cert)
  pub coarse : AreCoarse layout cert.x.items
  pub pair : IsFirstDoubled (gluing_of layout) (lengths_in cert.x.items) u v

-- Why a layout is not remeshed with these settings. Want of memory says nothing of it.
abbrev pub IsLayoutFail :
    (wish : Wish) (layout : Layout) (settings : Settings) (rising : Rising) (failed : LayoutFail) → Type 0
IsLayoutFail wish layout settings rising (fail.Tangled count) = IsTangledAt wish layout settings count
IsLayoutFail wish layout settings rising (fail.TooFine faces kept) = IsFineBy wish layout settings rising faces kept
IsLayoutFail wish layout settings rising (fail.Doubled u v cert) = IsDoubledBy wish layout settings rising u v cert
IsLayoutFail wish layout settings rising fail.Memory = ⊤

-- A least list for a layout with these settings and floors: one length for each arc.
pub record IsLeastFor
    (wish : Wish) (layout : Layout) (settings : Settings) (floors : Lengths) (lengths : List ℕ)
    : Type 0 where
  pub net : Network
  pub of_layout : IsNetOf (gluing_of layout) (old_lengths layout) (wish layout) settings floors net
  pub count : length lengths ≡ length layout.arcs
  pub least : IsLeast net (entries lengths)

-- Whatever least lists are kept, with the floors that rise for them, those that are used give few faces.
abbrev pub AreAllCoarse : (wish : Wish) (layout : Layout) (settings : Settings) (rising : Rising) → Type 0
AreAllCoarse wish layout settings rising = (certificates : Certificates)
    → AreKeptBy (λ floors cert. IsLeastFor wish layout settings floors cert.x) layout (given_floors settings) rising
    certificates
    → AreCoarse layout (used certificates).x

-- No least list doubles an edge.
abbrev pub AreAllUndoubled : (wish : Wish) (layout : Layout) (settings : Settings) → Type 0
AreAllUndoubled wish layout settings =
    (lengths : List ℕ) → IsLeastFor wish layout settings (given_floors settings) lengths
    → IsUndoubled (gluing_of layout) (lengths_in lengths)

-- A layout that is remeshed whatever least lists are kept. With floor 3 no edge is ever doubled.
pub record IsRemeshable (wish : Wish) (layout : Layout) (settings : Settings) (rising : Rising) : Type 0 where
  pub untangled : (count : ℕ) → ¬ IsTangledAt wish layout settings count
  pub coarse : AreAllCoarse wish layout settings rising
  pub undoubled : rising ≡ Never → settings.floor < MAX_FLOOR → AreAllUndoubled wish layout settings
