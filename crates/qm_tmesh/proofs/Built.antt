-- What was found is the layout.
use Rattle.std.proofs.lemmas.Grind.{common_steps}
use Rattle.std.proofs.lemmas.List.{length-map, FromFn.get_or-map-range_with_len, FromFn.length-map-range_with_len}
use Rattle.std.proofs.Common.{◌≡◌, ℕ, zero, suc, ◌+◌, ◌-◌, ◌<◌, ◌≤◌, Bool, true, false, List, [], map, length, get_or}
use Rattle.def_mesh.specs.{Faces.Faces, Meshes.IsMesh, Darts.darts, Vertices.vertex_count, HalfEdges.HalfEdges}
use Rattle.def_cut.specs.{FullCut.is_on, FullCut.IsFullCut, Grids.Rectangle, Grids.cell_of, Grids.patch_at}
use Rattle.def_layout.specs.{Arcs.Path, Arcs.path, Arcs.path_at, Arcs.long_at, Arcs.LiesAt, Borders.side_size}
use Rattle.def_layout.specs.{Borders.border_dart, Gluings.Way, Nodes.is_node, Layouts.way_number, Layouts.IsDartLayout}
use Rattle.qm_tmesh.specs.{Arcs.AreArcsBelow, Four.AreRuns, Four.IsPatchOf, Four.HavePatches, Four.AreAllFour}
use Rattle.qm_tmesh.proofs.Splits.{is_arc, arc_use, side_split, entry, is_line}
use Rattle.qm_tmesh.proofs.{ArcTables.read_at, UseTables.to_named, UseTables.uses_done, UseTables.lies_in}
use Rattle.std.proofs.Common.{rules, ◌∙◌, ap, refl, arith, ◌*◌}
use Rattle.qm_tmesh.specs.{Sides.reach_in, Sides.IsSplit, Sides.IsSideOf, Tables.IsMarked}
use Rattle.std.{proofs.Math.Nat.suc-mul, specs.List.filter, specs.List.range_with_len}
use Rattle.{def_mesh.specs.HalfEdges.half_edges, def_cut.specs.Grids.IsPartition}
use Rattle.def_layout.specs.declared.tmesh.{SideArc.SideArc, TArc.TArc}
use Rattle.layout_laws.proofs.{Borders.line_easts, FaceNodes.are_nodes}
use Rattle.{layout_laws.proofs.Uses.run_long, layout_laws.proofs.Uses.run_entry, qm_tmesh.specs.Uses.use_in}
use Rattle.{qm_tmesh.specs.Uses.HasUsesBelow, mesh_laws.proofs.Chains.manifold_law}
use Rattle.face_laws.proofs.FullCuts.{full_cut_law}

-- Tests that agree on a range filter it alike.
filter_same : (p q : ℕ → Bool) (a n : ℕ) → ((v : ℕ) → v < a + n → p v ≡ q v)
    → filter p (range_with_len a n) ≡ filter q (range_with_len a n)
filter_same p q a zero same = refl
filter_same p q a (suc n) same = search (rules, filter_same p q (a + 1) n (λ v l. same v (omega arith)))

-- A mesh, a full cut and the marks of its nodes.
pub to_marked : {faces : Faces} {cut marks : List Bool} → IsMesh faces → IsFullCut faces cut
    → marks ≡ map (is_node faces cut) (range_with_len 0 (vertex_count faces)) → IsMarked faces cut marks
to_marked {faces} {cut} mesh full e =
    let laws = manifold_law faces mesh.manifold in
    let is_cut = ((full_cut_law faces cut mesh.manifold).0 full).1 in
    record {
      few = mesh.few;
      long = full.long;
      laws = laws;
      full = is_cut;
      stand = are_nodes faces laws cut is_cut;
      many = rw e (length-map-range_with_len _ 0 _);
      told = λ v l. rw e (get_or-map-range_with_len _ 0 _ v v false l (omega arith));
    }

-- The table of uses, where the arcs were borrowed.
pub table_of : {faces : Faces} {items now : List TArc} {uses : List SideArc} → now ≡ items
    → HasUsesBelow faces (map path now) (length now) uses
    → HasUsesBelow faces (map path items) (length (map path items)) uses
table_of e table = rw (← e, length-map) table

-- The cells of a patch stand row by row. Its corners, as they are read.
module _ {faces : Faces} {cut : List Bool} {p : Rectangle} (is : IsPatchOf faces cut p) where
  pub rows : length p.cells ≡ (p.h - 1) * p.w + p.w
  rows = search rules

  cell_at : (i j : ℕ) {cell place : ℕ} → cell ≡ get_or p.cells place cell → place ≡ j * p.w + i
      → j * p.w + i < length p.cells → cell ≡ cell_of p i j
  cell_at i j e there low = read_at p.cells (j * p.w + i) e there low

  pub south_west : {cell : ℕ} → cell ≡ get_or p.cells 0 cell → cell ≡ cell_of p 0 0
  south_west e = cell_at 0 0 e (omega arith) (omega (arith, rows, is.placed.grid.wide))

  pub south_east : {cell : ℕ} → cell ≡ get_or p.cells (p.w - 1) cell → cell ≡ cell_of p (p.w - 1) 0
  south_east e = cell_at (p.w - 1) 0 e (omega arith) (omega (arith, rows, is.placed.grid.wide))

  pub north_east : {cell place : ℕ} → cell ≡ get_or p.cells place cell → place ≡ length p.cells - 1
      → cell ≡ cell_of p (p.w - 1 - 0) (p.h - 1)
  north_east e there = search (rules, cell_at)

  pub north_west : {cell place : ℕ} → cell ≡ get_or p.cells place cell → place ≡ length p.cells - p.w
      → cell ≡ cell_of p 0 (p.h - 1 - 0)
  north_west e there = search (rules, cell_at)

-- The places at which the uses of a side begin.
split_begins : {arcs : List Path} {uses : List SideArc} {line : List ℕ} {begins : ℕ → Bool} {used : List SideArc}
    → IsSplit arcs uses line begins → IsSideOf arcs uses line used → (k : ℕ) → k < length used
    → begins (reach_in arcs used k) ≡ true
split_begins split side zero l = split.first (omega (arith, (side.each 0 l).0))
split_begins {arcs} {begins = begins} {used} split side (suc k) l =
    grind (arith, side.each k, split.step (reach_in arcs used k), split_begins split side k, side.each (suc k) l)

module _ {faces : Faces} {cut marks : List Bool} (marked : IsMarked faces cut marks) {m : ℕ} (far : darts faces ≤ m)
    {list : List ℕ} {arcs : List Path} {uses : List SideArc} {ps : List Rectangle} {face : ℕ → ℕ}
    (parts : IsPartition (half_edges faces) (is_on cut) face ps) (below : AreArcsBelow faces cut list m arcs)
    (table : HasUsesBelow faces arcs (length arcs) uses) where
  abbrev mesh : HalfEdges
  mesh = half_edges faces

  abbrev pub runs : AreRuns faces arcs uses
  runs = record {
    cut = cut;
    laws = marked.laws;
    full = marked.full;
    stand = marked.stand;
    named = to_named marked below;
    long = table.long;
    begin = uses_done marked far below table parts;
  }

  pub placed : (p : ℕ) → p < length ps → IsPatchOf faces cut (patch_at ps p)
  placed p l = record { placed = parts.patch p l; sized = parts.sized p l }

  pub have_patches : HavePatches faces arcs uses ps
  have_patches = (runs, placed)

  module _ {sides : List (List (List SideArc))} (all : AreAllFour faces arcs uses ps sides)
      (nodes : list ≡ filter (is_on marks) (range_with_len 0 (length marks))) where
    -- The use at a slot begins where the uses before it end, and lies along the border.
    module _ (p : ℕ) (way : Way) (k : ℕ) (lp : p < length ps)
        (lk : k < length (get_or (get_or sides p []) (way_number way) [])) where
      abbrev border : (t : ℕ) → ℕ
      border = border_dart mesh (patch_at ps p) way

      abbrev slot_use : SideArc
      slot_use = use_in (get_or (get_or sides p []) (way_number way) []) k

      abbrev t : ℕ
      t = reach_in arcs (get_or (get_or sides p []) (way_number way) []) k

      slot_lies : (slot_use.arc < length arcs) × ((o : ℕ) → o < long_at arcs slot_use.arc
          → LiesAt mesh (path_at arcs slot_use.arc).darts slot_use.forward o (border (t + o)))
      slot_lies =
          let side = (all.each p lp).each way in
          let (low, is) = side.each k lk in
          let line = is_line runs (placed p lp) _ in
          let split = side_split runs (placed p lp) _ in
          let size = run_long mesh (border 0) (side_size (patch_at ps p) way) in
          let t_low : t < side_size (patch_at ps p) way = omega (arith, low, size) in
          let on = split_begins split side k lk in
          let begun : (slot_use.arc < length arcs) × LiesAt mesh (path_at arcs slot_use.arc).darts slot_use.forward 0
          (border t) = rw (is, entry runs (placed p lp) way t t_low) (runs.begin (border t) (line.low t t_low)
          (line.on t t_low) on) in
          let fits = (split.step t low on).fits in
          let long = ap (λ (u : SideArc). long_at arcs u.arc) is in (
            begun.0,
            λ o lo. rw (line_easts _ marked.laws _ marked.full _ marked.stand _ _ line t o
                (omega (arith, fits, long, lo, size))) at ((arc_use runs _ _ _ begun.0 begun.1).lies o lo),
          )

    pub is_layout : IsDartLayout (half_edges faces) (is_on cut) (is_node faces cut) face (vertex_count faces)
        (record { nodes = list; arcs = arcs; patches = ps; sides = sides })
    is_layout = record {
      patches = parts;
      nodes = nodes ∙ rw marked.many (filter_same _ _ 0 _ (λ v l. marked.told v (omega arith)));
      arcs = record {
        each = is_arc runs;
        ordered = below.ordered;
        covers = λ d l on.
            let (a, k, f, la, lk, lies, first) = lies_in marked far below parts d l on in (a, k, f, la, lk, lies);
      };
      first_low = λ a l. (below.each a l).2.first_low;
      last_low = λ a l. (below.each a l).2.last_low;
      first_at = λ a l. grind (arith, common_steps, below.each a l);
      last_at = λ a k l e. let (s, named, from) = below.each a l in
          cc (run_entry mesh s (long_at arcs a) k (omega arith), from.darts, from.last_at k e);
      sided = all.count;
      four = λ p l. (all.each p l).count;
      sizes = λ p way l. ((all.each p l).each way).total ∙ run_long mesh (border_dart mesh (patch_at ps p) way 0)
          (side_size (patch_at ps p) way);
      uses = λ slot is. (slot_lies slot.patch slot.side slot.at is.patch_low is.low).0;
      used = λ slot offset is lo. (slot_lies slot.patch slot.side slot.at is.patch_low is.low).1 offset lo;
    }
