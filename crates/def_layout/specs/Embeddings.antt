-- When a gluing lies in a mesh: its cells are the faces, its nodes are vertices, and its arcs are runs of darts.
use Rattle.std.specs.Prelude.{◌≡◌, ◌⊎◌, ℕ, ◌+◌, ◌-◌, ◌<◌, true, false, Some, None}
use Rattle.def_mesh.specs.HalfEdges.{HalfEdges}
use Rattle.def_layout.specs.Gluings.{east, north, south, west, Gluing, Slot, IsSlot, use_of, start_node}
use Rattle.def_layout.specs.Surfaces.{IsOtherSlot}
use Rattle.def_layout.specs.Lengths.{Lengths, wide, high}
use Rattle.def_layout.specs.Cells.{CellDart, IsDart, dart, next, slot_dart}

-- `cell` gives the dart of the mesh for a dart of a cell, `vertex` the vertex for a node, and `arc_dart` the darts of
-- an arc, counted along it. The lengths are the numbers of these darts.
pub record IsEmbedding
    (mesh : HalfEdges) (gluing : Gluing) (lengths : Lengths) (cell : CellDart → ℕ) (vertex : ℕ → ℕ)
    (arc_dart : ℕ → ℕ → ℕ)
    : Type 0 where
  -- Each dart of the mesh is that of one dart of a cell, and each node has its own vertex.
  pub low : (d : CellDart) → IsDart gluing lengths d → cell d < mesh.count
  pub same : (d e : CellDart) → IsDart gluing lengths d → IsDart gluing lengths e → cell d ≡ cell e → d ≡ e
  pub onto : (k : ℕ) → k < mesh.count → (d : CellDart) × IsDart gluing lengths d × (cell d ≡ k)
  pub vertex_same : (m n : ℕ) → m < gluing.nodes → n < gluing.nodes → vertex m ≡ vertex n → m ≡ n
  -- Cells are faces, and neighbours in a patch have an edge in common.
  pub turned : (d : CellDart) → cell (next d) ≡ mesh.next (cell d)
  pub east_of : (p i j : ℕ) → p < gluing.patches → i + 1 < wide gluing lengths p → j < high gluing lengths p
      → mesh.twin (cell (dart p i j east)) ≡ Some (cell (dart p (i + 1) j west))
  pub north_of : (p i j : ℕ) → p < gluing.patches → i < wide gluing lengths p → j + 1 < high gluing lengths p
      → mesh.twin (cell (dart p i j north)) ≡ Some (cell (dart p i (j + 1) south))
  -- Each arc is used in its own direction, each slot has another one or none, and an arc begins at each node.
  pub forward : (arc : ℕ) → arc < gluing.arcs
      → (w : Slot) × IsSlot gluing w × (use_of gluing w ≡ record { arc = arc; forward = true })
  pub other : (w : Slot) → IsSlot gluing w
      → ((v : Slot) × IsOtherSlot gluing w v) ⊎ ((v : Slot) → ¬ IsOtherSlot gluing w v)
  pub reached : (node : ℕ) → node < gluing.nodes
      → (w : Slot) × IsSlot gluing w × (start_node gluing (use_of gluing w) ≡ node)
  -- The darts of an arc, in its own direction, are border darts, and so are their twins, on its other side.
  pub arc_low : (arc k : ℕ) → arc < gluing.arcs → k < lengths arc → arc_dart arc k < mesh.count
  pub ahead : (w : Slot) (k : ℕ) → IsSlot gluing w → k < lengths (use_of gluing w).arc
      → (use_of gluing w).forward ≡ true → cell (slot_dart gluing lengths w k) ≡ arc_dart (use_of gluing w).arc k
  pub behind : (w : Slot) (k : ℕ) → IsSlot gluing w → k < lengths (use_of gluing w).arc
      → (use_of gluing w).forward ≡ false
      → mesh.twin (arc_dart (use_of gluing w).arc (lengths (use_of gluing w).arc - 1 - k))
      ≡ Some (cell (slot_dart gluing lengths w k))
  -- An arc that no slot uses against its direction lies on the boundary.
  pub alone : (arc k : ℕ) → arc < gluing.arcs → k < lengths arc
      → ((w : Slot) → IsSlot gluing w → (use_of gluing w).arc ≡ arc → (use_of gluing w).forward ≡ true)
      → mesh.twin (arc_dart arc k) ≡ None
  -- Arcs run from node to node.
  pub first_at : (arc : ℕ) → arc < gluing.arcs → mesh.from (arc_dart arc 0) ≡ vertex (gluing.first arc)
  pub last_at : (arc : ℕ) → arc < gluing.arcs
      → mesh.from (mesh.next (arc_dart arc (lengths arc - 1))) ≡ vertex (gluing.last arc)
