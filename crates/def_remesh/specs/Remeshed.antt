-- What is made of a mesh that is remeshed: the cut, the lengths, the text and the shape.
use Rattle.std.specs.Prelude.{◌≡◌, ◌≤◌, ◌∷◌, ◌++◌, ℕ, Bool, List, length, Option}
use Rattle.def_flow.specs.Admissible.{entries, IsLeast}
use Rattle.def_flow.specs.Network.{Network, tangle_number}
use Rattle.def_flow.specs.declared.limits.TheConstants.{MAX_FLOOR, MAX_TANGLE}
use Rattle.def_flow.specs.declared.net.Settings.{Settings}
use Rattle.def_io.specs.Bytes.{Bytes}
use Rattle.def_layout.specs.FaceLayouts.{IsCutLayout}
use Rattle.def_layout.specs.Lengths.{Lengths}
use Rattle.def_layout.specs.Layouts.{Layout, gluing_of, vertex_at}
use Rattle.def_layoutnet.specs.LayoutNet.{IsNetOf}
use Rattle.def_layoutnet.specs.LayoutNetLaws.{AreOpposite}
use Rattle.def_certtext.specs.CertLines.{alone, raised, risen, text_of, used, Certificates, Lists}
use Rattle.def_certtext.specs.Laws.{certificate_lines, IsWritableCert}
use Rattle.def_certtext.specs.declared.certs.Rising.{Rising}
use Rattle.def_certtext.specs.declared.certs.Rising.TheVariants.{Third, Rounds}
use Rattle.def_io.specs.declared.TheConstants.{LINE_FEED}
use Rattle.def_text.specs.Canonical.{canonical_text}
use Rattle.def_text.specs.FaceSet.{FaceSet}
use Rattle.def_written.specs.Edges.{IsDoubledAt, IsUndoubled}
use Rattle.def_written.specs.NewFaces.{face_count, new_faces}
use Rattle.def_written.specs.Shape.{KeepsShape}
use Rattle.def_remesh.specs.NewPoints.{lengths_in}
use Rattle.def_remesh.specs.NewSoup.{spaced_soup}
use Rattle.def_remesh.specs.Rises.{risen_floors, AreNeeded}
use Rattle.def_remesh.specs.Tasks.{given_floors, old_lengths, remesh_task, Task, Wish}
use Rattle.def_remesh.specs.declared.limits.TheConstants.{MAX_NEW_FACES}

-- A certificate whose lengths are least for the network of a layout with these wished lengths and floors: one for each
-- arc, at least its floor, equal on opposite sides of each patch, and of the least deviation among all such lengths.
-- The network is not too tangled, and the certificate can be written.
pub record HasLeastLengths
    (wish : Wish) (layout : Layout) (settings : Settings) (floors : Lengths) (cert : Lists)
    : Type 0 where
  pub net : Network
  pub of_layout : IsNetOf (gluing_of layout) (old_lengths layout) (wish layout) settings floors net
  pub untangled : tangle_number net ≤ MAX_TANGLE
  pub count : length cert.x ≡ length net.arcs
  pub opposite : AreOpposite (gluing_of layout) (entries cert.x)
  pub least : IsLeast net (entries cert.x)
  pub writable : IsWritableCert cert

-- The lengths give no more faces than a new mesh may have.
abbrev pub AreCoarse : (layout : Layout) (lengths : List ℕ) → Type 0
AreCoarse layout lengths = face_count (gluing_of layout) (lengths_in lengths) ≤ MAX_NEW_FACES

-- The lengths double an edge.
abbrev pub AreDoubled : (layout : Layout) (lengths : List ℕ) → Type 0
AreDoubled layout lengths = (u v : ℕ) × IsDoubledAt (gluing_of layout) (lengths_in lengths) u v

-- A certificate of which this is known with its floors, and whose lengths double an edge of a new mesh with few faces.
pub record IsDoublingBy (fits : Lengths → Lists → Type 0) (layout : Layout) (floors : Lengths) (cert : Lists) : Type 0
  where
    pub fit : fits floors cert
    pub coarse : AreCoarse layout cert.x
    pub doubled : AreDoubled layout cert.x

-- The certificates of a remesh, where this is known of one with its floors: one for those that are given. Where its
-- lengths double an edge, floors may rise: there is another, with floor 3 for each arc, or there are those for the
-- floors that rose by need.
abbrev pub AreKeptBy : (fits : Lengths → Lists → Type 0) (layout : Layout) (floors : Lengths) (rising : Rising)
    (certificates : Certificates) → Type 0
AreKeptBy fits layout floors rising (alone cert) = fits floors cert
AreKeptBy fits layout floors rising (raised first cert) =
    (rising ≡ Third) × IsDoublingBy fits layout floors first × fits (λ arc. MAX_FLOOR) cert
AreKeptBy fits layout floors rising (risen first rises after) =
    (rising ≡ Rounds) × IsDoublingBy fits layout floors first × AreNeeded (gluing_of layout) (lengths_in first.x) rises
    × AreKeptBy fits layout (risen_floors rises floors) rising after

-- The mesh at the lengths that are used, these lines behind it, and the lines of the certificates.
abbrev pub text_behind_head : (between : Bytes) (rising : Rising) (soup : FaceSet) (layout : Layout)
    (shares : Option (List ℕ)) (certificates : Certificates) → Bytes
text_behind_head between rising soup layout shares certificates =
    canonical_text (spaced_soup soup layout shares (lengths_in (used certificates).x))
    ++ (between ++ text_of (certificate_lines rising certificates))

-- The whole text of a task.
abbrev pub finished_text : (task : Task) (soup : FaceSet) (layout : Layout) (certificates : Certificates) → Bytes
finished_text task soup layout certificates = task.head ++ LINE_FEED ∷
    text_behind_head (task.between layout (lengths_in (used certificates).x)) task.rising soup layout task.shares
    certificates

-- A task that is finished for a soup: a layout cuts its mesh into rectangular grids of the cut, each face once; the
-- lengths are least; the text is that of the mesh with these lengths; and that mesh has the shape of the old one.
pub record IsFinished (task : Task) (soup : FaceSet) (text : Bytes) : Type 0 where
  pub layout : Layout
  pub cut : IsCutLayout soup.faces task.marks layout
  pub certificates : Certificates
  pub lengths : AreKeptBy (HasLeastLengths task.wish layout task.settings) layout (given_floors task.settings)
      task.rising
      certificates
  pub coarse : AreCoarse layout (used certificates).x
  pub undoubled : IsUndoubled (gluing_of layout) (lengths_in (used certificates).x)
  pub written : text ≡ finished_text task soup layout certificates
  pub shape : KeepsShape soup.faces (new_faces (gluing_of layout) (lengths_in (used certificates).x))
      (gluing_of layout).nodes (vertex_at layout)

-- The text of a remesh.
abbrev pub remeshed_text :
    (settings : Settings) (auto : Bool) (soup : FaceSet) (layout : Layout) (certificates : Certificates) → Bytes
remeshed_text settings auto soup layout certificates =
    finished_text (remesh_task settings auto soup.faces) soup layout certificates

-- A finished remesh of a soup: the cut is its motorcycle graph, and the old lengths are wished for.
abbrev pub IsRemeshed : (settings : Settings) (auto : Bool) (soup : FaceSet) (text : Bytes) → Type 0
IsRemeshed settings auto soup text = IsFinished (remesh_task settings auto soup.faces) soup text
