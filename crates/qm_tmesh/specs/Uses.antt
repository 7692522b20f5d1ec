-- Where the uses of arcs begin.
use Rattle.std.specs.Prelude.{◌≡◌, ℕ, suc, ◌<◌, Bool, true, List, length, slice_index_or}
use Rattle.def_mesh.specs.Faces.{Faces}
use Rattle.def_mesh.specs.Darts.{darts, from_of}
use Rattle.def_mesh.specs.HalfEdges.{half_edges}
use Rattle.def_cut.specs.FullCut.{is_on}
use Rattle.def_layout.specs.Arcs.{Path, path_at, long_at, name_at, LiesAt}
use Rattle.def_layout.specs.Nodes.{is_node}
use Rattle.def_layout.specs.declared.tmesh.SideArc.{SideArc}
use Rattle.layout_laws.specs.Named.{run_list}
use Rattle.qm_tmesh.specs.Tables.{IsNamedRun}

-- The use in a table that begins with dart d.
abbrev pub use_in : (uses : List SideArc) (d : ℕ) → SideArc
use_in uses d = slice_index_or uses d (record { arc = 0; forward = true })

-- The arcs are named runs, in order of their names.
pub record AreNamed (faces : Faces) (cut : List Bool) (arcs : List Path) : Type 0 where
  pub each : (a : ℕ) → a < length arcs
      → (s : ℕ) × IsNamedRun faces cut s (long_at arcs a)
      × ((path_at arcs a).darts ≡ run_list (half_edges faces) s (long_at arcs a))
  pub ordered : (a : ℕ) → suc a < length arcs → name_at arcs a < name_at arcs (suc a)

-- The table has the uses of the arcs below b.
pub record HasUsesBelow (faces : Faces) (arcs : List Path) (b : ℕ) (uses : List SideArc) : Type 0 where
  pub long : length uses ≡ darts faces
  pub each : (a e : ℕ) (forward : Bool) → a < b → a < length arcs
      → LiesAt (half_edges faces) (path_at arcs a).darts forward 0 e
      → use_in uses e ≡ record { arc = a; forward = forward }

-- At each node each dart of the cut begins the use that the table has.
abbrev pub HasUses : (faces : Faces) (cut : List Bool) (arcs : List Path) (uses : List SideArc) → Type 0
HasUses faces cut arcs uses =
    (d : ℕ) → d < darts faces → is_on cut d ≡ true → is_node faces cut (from_of faces d) ≡ true
    → ((use_in uses d).arc < length arcs)
    × LiesAt (half_edges faces) (path_at arcs (use_in uses d).arc).darts (use_in uses d).forward 0 d
