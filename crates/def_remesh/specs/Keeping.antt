-- The network by which a layout is remeshed, and what is kept of it.
use Rattle.std.specs.Prelude.{◌≡◌, ◌≤◌, ℕ}
use Rattle.def_certtext.specs.CertLines.{used, Certificates}
use Rattle.def_certtext.specs.declared.certs.Rising.{Rising}
use Rattle.def_flow.specs.Network.{Network, tangle_number, IsWithinBounds}
use Rattle.def_flow.specs.declared.limits.TheConstants.{MAX_TANGLE}
use Rattle.def_flow.specs.declared.net.Settings.{Settings}
use Rattle.def_layout.specs.Lengths.{Lengths}
use Rattle.def_layout.specs.Layouts.{Layout, gluing_of}
use Rattle.def_layoutnet.specs.LayoutNet.{IsNetOf}
use Rattle.def_layoutnet.specs.MeshLayouts.{IsSomeLayout}
use Rattle.def_written.specs.Edges.{IsUndoubled}
use Rattle.def_remesh.specs.NewPoints.{lengths_in}
use Rattle.def_remesh.specs.Numberings.{IsNumbering}
use Rattle.def_remesh.specs.Certified.{AreKept}
use Rattle.def_remesh.specs.Remeshed.{AreCoarse}
use Rattle.def_remesh.specs.Stitched.{KeepsShapes}
use Rattle.def_remesh.specs.Tasks.{given_floors, old_lengths, Wish}
use Rattle.def_remesh.specs.declared.tables.Tables.{Tables}

-- A network of a layout with these wished lengths and floors, within bounds and not too tangled.
pub record IsNetWith
    (wish : Wish) (layout : Layout) (settings : Settings) (floors : Lengths) (net : Network)
    : Type 0 where
  pub mesh : IsSomeLayout layout
  pub floor : (arc : ℕ) → 1 ≤ floors arc
  pub is : IsNetOf (gluing_of layout) (old_lengths layout) (wish layout) settings floors net
  pub bounds : IsWithinBounds net
  pub untangled : tangle_number net ≤ MAX_TANGLE

-- The same with the given floors.
abbrev pub IsNetFor : (wish : Wish) (layout : Layout) (settings : Settings) (net : Network) → Type 0
IsNetFor wish layout settings net = IsNetWith wish layout settings (given_floors settings) net

-- The certificates of a remesh, and the numbers of the new mesh at the lengths that are used. It has no more faces than
-- a new mesh may have, no edge of it is doubled, and it keeps the shape of the old one.
pub record IsKept
    (wish : Wish) (layout : Layout) (settings : Settings) (rising : Rising) (certificates : Certificates)
    (tables : Tables)
    : Type 0 where
  pub kept : AreKept wish layout settings rising certificates
  pub coarse : AreCoarse layout (used certificates).x
  pub undoubled : IsUndoubled (gluing_of layout) (lengths_in (used certificates).x)
  pub shape : KeepsShapes layout (lengths_in (used certificates).x)
  pub numbering : IsNumbering layout tables
  pub lengths : tables.lengths.items ≡ (used certificates).x
