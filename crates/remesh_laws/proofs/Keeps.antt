-- A layout that is remeshed whatever least lists are kept is refused for no certificate.
use Rattle.std.proofs.Common.{rules, ℕ, arith, ◌≡◌, ◌≤◌, ◌<◌, List, length, refl}
use Rattle.std.proofs.{lemmas.Int.ints, lemmas.List.get_or_past}
use Rattle.std.specs.Prelude.{IsErrOf, Result, Err}
use Rattle.def_certtext.specs.CertLines.{lists_of, alone, raised, used, Certificates}
use Rattle.def_certtext.specs.{declared.certs.Rising.Rising, declared.certs.Rising.TheVariants.Third}
use Rattle.def_flow.specs.{declared.cert.Cert.Cert, declared.net.Settings.Settings, Accepted.certificate}
use Rattle.def_flow.specs.{Descent.IsSolution, Network.arc_at, Network.Network, declared.limits.TheConstants.MAX_FLOOR}
use Rattle.def_flow.specs.{declared.limits.TheConstants.MAX_LENGTH}
use Rattle.def_layout.specs.{Lengths.Lengths, Lengths.AreLengths as AreArcLengths, Layouts.Layout, Layouts.gluing_of}
use Rattle.def_layout.specs.{Layouts.vertex_at, FaceLayouts.IsCutLayout}
use Rattle.def_remesh.specs.Refusals.{IsDoubledBy, IsFineBy, IsRemeshable, AreTooFine}
use Rattle.def_remesh.specs.Remeshed.{AreKeptBy, HasLeastLengths, finished_text}
use Rattle.def_remesh.specs.{Certified.IsCertified, Certified.AreKept, Tasks.given_floors, Tasks.Wish, Tasks.Task}
use Rattle.def_remesh.specs.{declared.kept.Kept.Kept, declared.kept.Kept.TheVariants.Multiple}
use Rattle.def_remesh.specs.{declared.kept.Kept.TheVariants.Least, Keeping.IsKept, Keeping.IsNetWith}
use Rattle.def_remesh.specs.{NewPoints.lengths_in, Placings.IsMeshLayout, Stitched.AreLong, Stitched.AreSafe}
use Rattle.def_remesh.specs.{Stitched.IsUnstitched, Stitched.KeepsShapes, declared.fail.StitchFail.StitchFail}
use Rattle.def_remesh.specs.{declared.tables.Tables.Tables}
use Rattle.remesh_laws.proofs.ReadAgain.{kept_by, raised_net, certified_lengths, task_read}
use Rattle.remesh_laws.{proofs.Solved.certified, specs.Keeps.IsNumbered, specs.Keeps.ShowsTask}
use Rattle.def_written.specs.{NewFaces.new_faces, Shape.KeepsShape}
use Rattle.{def_text.specs.FaceSet.FaceSet, def_layoutnet.specs.Floors.HasFloors}
use Rattle.def_remesh.specs.declared.fail.StitchFail.TheVariants as fails

-- So the lengths that are used give too many faces only where those of some least lists do.
pub fits_not_fine : (wish : Wish) (layout : Layout) (settings : Settings) (rising : Rising) (faces : ℕ) (kept : Kept)
    → IsRemeshable wish layout settings rising → IsFineBy wish layout settings rising faces kept → ⊥
fits_not_fine wish layout settings rising faces (Multiple by) fits fine = absurd fine
fits_not_fine wish layout settings rising faces (Least certs) fits fine = search (rules, kept_by)

pub fits_not_doubled : (wish : Wish) (layout : Layout) (settings : Settings) (rising : Rising) (u v : ℕ) (cert : Cert)
    → IsRemeshable wish layout settings rising → IsDoubledBy wish layout settings rising u v cert → ⊥
fits_not_doubled wish layout settings rising u v cert fits by = fits.undoubled by.given by.low cert.x.items
    (search rules) u v by.pair.doubled

-- What least lengths and the numbers of their new mesh make, together, of a layout that is remeshed.

-- Its solution is certified.
pub solved : {wish : Wish} {floors : Lengths} (layout : Layout) (settings : Settings) (net : Network) (cert : Cert)
    → IsNetWith wish layout settings floors net → IsSolution net (certificate cert)
    → IsCertified wish layout settings floors (lists_of cert)
solved layout settings net cert for is = search (rules, certified)

-- So its lengths are lengths of the layout, also under another name.
pub are_lengths : {wish : Wish} {floors : Lengths} (layout : Layout) (settings : Settings) (net : Network) (cert : Cert)
    (xs : List ℕ) → IsNetWith wish layout settings floors net
    → IsSolution net (certificate cert) → xs ≡ cert.x.items → AreArcLengths (gluing_of layout) (lengths_in xs)
are_lengths layout settings net cert xs for is same = rw same
    (certified_lengths layout settings (lists_of cert) for.floor (solved layout settings net cert for is).lengths)

-- The network with floor 3.
pub third_net : {wish : Wish} {floors : Lengths} (layout : Layout) (settings : Settings) (net other : Network)
    → IsNetWith wish layout settings floors net → HasFloors net (λ a. 3) other
    → IsNetWith wish layout settings (λ a. 3) other
third_net layout settings net other = search (rules, raised_net)

-- Kept certificates, with the numbers of the new mesh at the lengths that are used.
pub keeps : {wish : Wish} (layout : Layout) (settings : Settings) (rising : Rising) (certificates : Certificates) (xs :
    List ℕ) (tables : Tables) → xs ≡ (used certificates).x → AreKept wish layout settings rising certificates
    → IsNumbered layout xs tables → IsKept wish layout settings rising certificates tables
keeps layout settings rising certificates xs tables same kept numbered =
    let is : IsNumbered layout (used certificates).x tables = rw (← same) numbered in
    search rules

pub keeps_first : {wish : Wish} (layout : Layout) (settings : Settings) (rising : Rising) (cert : Cert) (xs : List ℕ)
    (tables : Tables) → xs ≡ cert.x.items → IsCertified wish layout settings (given_floors settings) (lists_of cert)
    → IsNumbered layout xs tables → IsKept wish layout settings rising (alone (lists_of cert)) tables
keeps_first layout settings rising cert xs tables = keeps layout settings rising (alone (lists_of cert)) xs tables

pub keeps_third : {wish : Wish} (layout : Layout) (settings : Settings) (first third : Cert) (xs : List ℕ) (tables :
    Tables) → xs ≡ third.x.items → AreKept wish layout settings Third (raised (lists_of first) (lists_of third))
    → IsNumbered layout xs tables → IsKept wish layout settings Third (raised (lists_of first) (lists_of third)) tables
keeps_third layout settings first third xs tables = search (rules, keeps)

-- A refusal of lengths, of this kind, is one of the same lengths under another name.
pub too_fine : (layout : Layout) (xs ys : List ℕ) (fail : StitchFail) (faces : ℕ) → xs ≡ ys → fail ≡ fails.TooFine faces
    → IsUnstitched (gluing_of layout) (lengths_in xs) fail → AreTooFine layout ys faces
too_fine layout xs ys fail faces same is refused = search rules

-- No length is too great, also beyond the last arc.
pub bounded : (net : Network) (cert : Cert) (xs : List ℕ) → IsSolution net (certificate cert) → xs ≡ cert.x.items
    → (arc : ℕ) → lengths_in xs arc ≤ MAX_LENGTH
bounded net cert xs is same arc = search (rules, get_or_past)

-- Lengths for the greatest floors are long.
pub long_lengths : {wish : Wish} {floors : Lengths} (layout : Layout) (settings : Settings) (net : Network) (cert :
    Cert) → IsNetWith wish layout settings floors net → IsSolution net (certificate cert) → ((k : ℕ) → k < length
    net.arcs → MAX_FLOOR ≤ (arc_at net.arcs k).floor) → AreLong layout (lengths_in cert.x.items)
long_lengths layout settings net cert for is high a low =
    let inner : a < length net.arcs = omega (arith, low, for.is.long) in
    omega (arith, ints, is.accepted.admissible.high a inner, high a inner)

-- Long lengths double no edge.
pub none_doubled : {T : Type 0} (layout : Layout) (xs ys : List ℕ) (result : Result T StitchFail) (fail : StitchFail) (u
    v : ℕ) → xs ≡ ys → AreLong layout (lengths_in ys) → (AreSafe layout (lengths_in xs) → (a b : ℕ) → ¬ IsErrOf result
    (fails.Doubled a b)) → result ≡ Err fail → fail ≡ fails.Doubled u v → ⊥
none_doubled layout xs ys result fail u v same long safe told doubled = search rules

-- So lengths that double one are for a lower floor.
pub low_floor : {T : Type 0} {wish : Wish} (layout : Layout) (settings : Settings) (cert : Cert) (xs : List ℕ) (result :
    Result T StitchFail) (fail : StitchFail) (u v : ℕ) → xs ≡ cert.x.items → IsCertified wish layout settings
    (given_floors settings) (lists_of cert) → (AreSafe layout (lengths_in xs) → (a b : ℕ) → ¬ IsErrOf result
    (fails.Doubled a b)) → result ≡ Err fail → fail ≡ fails.Doubled u v → settings.floor < MAX_FLOOR
low_floor layout settings cert xs result fail u v same is safe told doubled = search rules

-- The new mesh has the shape of the one that the layout lies in.
pub kept_shape : (soup : FaceSet) (layout : Layout) (xs : List ℕ) → IsMeshLayout soup.faces layout
    → KeepsShapes layout (lengths_in xs)
    → KeepsShape soup.faces (new_faces (gluing_of layout) (lengths_in xs)) (gluing_of layout).nodes (vertex_at layout)
kept_shape soup layout xs lies shapes = search rules

-- Accepted certificates have least lengths.
pub least_of : (wish : Wish) (layout : Layout) (settings : Settings) (rising : Rising) (certificates : Certificates)
    → AreKept wish layout settings rising certificates
    → AreKeptBy (HasLeastLengths wish layout settings) layout (given_floors settings) rising certificates
least_of wish layout settings rising certificates = search (rules, kept_by)

-- What is kept of a layout that a task's cut gives finishes the task, and shows it.
pub shown : (task : Task) (soup : FaceSet) (layout : Layout) (certificates : Certificates) (tables : Tables)
    → IsMeshLayout soup.faces layout → IsCutLayout soup.faces task.marks layout → IsKept task.wish layout task.settings
    task.rising certificates tables → ShowsTask task soup (finished_text task soup layout certificates)
shown task soup layout certificates tables lies cut kept =
    let lengths = least_of task.wish layout task.settings task.rising certificates kept.kept in
    record {
      shown = record {
        finished = record {
          layout = layout;
          cut = cut;
          certificates = certificates;
          lengths = lengths;
          coarse = kept.coarse;
          undoubled = kept.undoubled;
          written = refl;
          shape = kept_shape soup layout (used certificates).x lies kept.shape;
        };
        certified = kept.kept;
      };
      read = task_read task soup layout certificates kept.numbering.mesh (rw (← kept.lengths) kept.numbering.lengths)
          lengths;
    }
