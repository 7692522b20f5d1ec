-- What is joinable in a layout is joinable in its cut.
use Rattle.std.proofs.Common.{rules, List}
use Rattle.std.proofs.Common.{◌≡◌, ℕ, suc, ◌+◌, ◌-◌, ◌<◌, Bool, true, false, not, Some, sym, ◌∙◌, ap, refl, arith}
use Rattle.def_mesh.specs.HalfEdges.{HalfEdges, IsQuadManifold}
use Rattle.def_cut.specs.{Cuts.Cut, Cuts.IsCut, Grids.IsGrid, Grids.Rectangle, Grids.cell_of, Grids.patch_at}
use Rattle.def_cut.specs.{Steps.easts, Steps.spin}
use Rattle.cut_laws.proofs.{Folds.prev_three, Classes.In, Classes.in_low}
use Rattle.def_layout.specs.Gluings.{Way, south, east, north, west, Gluing, Slot, IsSlot, use_of}
use Rattle.def_layout.specs.{Arcs.path_at, Arcs.long_at, Arcs.LiesAt, Borders.side_size, Borders.border_dart}
use Rattle.def_layout.specs.{Layouts.Layout, Layouts.gluing_of, Layouts.IsDartLayout}
use Rattle.merge_laws.proofs.{Sides.south_side, Sides.east_side, Sides.north_side, Sides.west_side, Sides.along_south}
use Rattle.merge_laws.proofs.{Sides.along_east, Sides.along_north, Sides.along_west, Joins.one_place_of}
use Rattle.def_merge.specs.{Joins.IsWholeSide, Joins.AreInOne, Joins.IsJoinable, Layouts.IsJoinableAt, Laws.JoinableLaw}
use Rattle.{mesh_laws.proofs.Chains.manifold_law, face_laws.proofs.FullCuts.full_cut_law}

-- A side of a patch: the whole of it, dart by dart.
pub record IsBorder (mesh : HalfEdges) (cut : Cut) (p : Rectangle) (side : Way) : Type 0 where
  pub whole : IsWholeSide mesh cut (border_dart mesh p side 0) (side_size p side)
  pub along : (k : ℕ) → k < side_size p side → easts mesh (border_dart mesh p side 0) k ≡ border_dart mesh p side k
  pub inside : (k : ℕ) → k < side_size p side → In mesh p.w p.h (cell_of p) (border_dart mesh p side k)

module _ (mesh : HalfEdges) (laws : IsQuadManifold mesh) (cut : Cut) (full : IsCut mesh cut) (p : Rectangle)
    (grid : IsGrid mesh cut p.w p.h (cell_of p)) where
  at : (q a b : ℕ) {x : ℕ} → a < p.w → b < p.h → x ≡ spin mesh q (cell_of p a b) → In mesh p.w p.h (cell_of p) x
  at q a b la lb is = (q, record { a = a; b = b; a_low = la; b_low = lb; is = is })

  pub border : (side : Way) → IsBorder mesh cut p side
  border south = search (rules, south_side laws full grid, along_south laws full grid)
  border east = record {
    whole = east_side laws full grid;
    along = along_east laws full grid;
    inside = λ k l. at 1 (p.w - 1) k (omega arith) l refl;
  }
  border north = record {
    whole = grind (arith, north_side laws full grid);
    along = λ k l. grind (arith, along_north laws full grid k (p.w - 1 - k));
    inside = λ k l. at 2 (p.w - 1 - k) (p.h - 1) (omega arith) (omega arith) refl;
  }
  border west = record {
    whole = grind (arith, west_side laws full grid, prev_three laws);
    along = λ k l. grind (arith, along_west laws full grid k (p.h - 1 - k), prev_three laws);
    inside = λ k l. at 3 0 (p.h - 1 - k) grid.wide (omega arith) (prev_three laws _);
  }

module _ {mesh : HalfEdges} (laws : IsQuadManifold mesh) {cut : Cut} (full : IsCut mesh cut) {node : ℕ → Bool}
    {face : ℕ → ℕ} {vertices : ℕ} {layout : Layout} (lay : IsDartLayout mesh cut node face vertices layout) where
  abbrev gluing : Gluing
  gluing = gluing_of layout

  -- The patch of a slot, the darts of its side, and its arc.
  abbrev patch : (slot : Slot) → Rectangle
  patch slot = patch_at layout.patches slot.patch

  abbrev dart : (slot : Slot) (k : ℕ) → ℕ
  dart slot k = border_dart mesh (patch_at layout.patches slot.patch) slot.side k

  abbrev darts_of : (slot : Slot) → List ℕ
  darts_of slot = (path_at layout.arcs (use_of (gluing_of layout) slot).arc).darts

  abbrev length_of : (slot : Slot) → ℕ
  length_of slot = long_at layout.arcs (use_of (gluing_of layout) slot).arc

  -- A slot that is alone on its side: its arc is as long as the side, and begins with it.
  module _ {slot : Slot} (is : IsSlot gluing slot) (alone : gluing.many slot.patch slot.side ≡ 1) where
    side : IsBorder mesh cut (patch slot) slot.side
    side = border mesh laws cut full (patch slot) (lay.patches.patch slot.patch is.patch_low).grid slot.side

    long : side_size (patch slot) slot.side ≡ length_of slot
    long = sym (search rules)

    lies : (o : ℕ) → o < length_of slot → LiesAt mesh (darts_of slot) (use_of gluing slot).forward o (dart slot o)
    lies o l = grind (arith, lay.used slot o is l)

  module _ {one other : Slot} (are : IsJoinableAt gluing one other) where
    near : IsBorder mesh cut (patch one) one.side
    near = side are.slot are.alone

    far : IsBorder mesh cut (patch other) other.side
    far = side are.across.0 are.alone_across

    far_long : side_size (patch other) other.side ≡ length_of one
    far_long = long are.across.0 are.alone_across ∙ ap (long_at layout.arcs) are.across.1.arc

    paired : (b : Bool) (k j x y : ℕ) → y < mesh.count → k + suc j ≡ length_of one → LiesAt mesh (darts_of one) b k x
        → LiesAt mesh (darts_of one) (not b) j y → mesh.twin x ≡ Some y
    paired true k j x y ly sum a b = search rules
    paired false k j x y ly sum a b = search rules

    joined : IsJoinable mesh cut (dart one 0) (dart other 0) (length_of one)
    joined = search (rules, near, long are.slot are.alone, far, far_long, across, apart)
      where
        across : (k j : ℕ) → k + suc j ≡ length_of one → mesh.twin (easts mesh (dart one 0) k)
            ≡ Some (easts mesh (dart other 0) j)
        across k j sum =
            let lj : j < side_size (patch other) other.side = omega (arith, far_long) in
            let grid = (lay.patches.patch other.patch are.across.0.patch_low).grid in
            let low = in_low laws full grid _ (far.inside j lj) in
            let lk : k < side_size (patch one) one.side = omega (arith, long are.slot are.alone) in
            ap mesh.twin (near.along k lk) ∙ (paired _ k j (dart one k) (dart other j) low sum
            (lies are.slot are.alone k (omega arith)) (search (rules, lies)) ∙ ap Some (sym (far.along j lj)))

        apart : AreInOne mesh cut (dart one 0) (dart other 0) → ⊥
        apart a = are.apart (one_place_of laws full lay.patches one.patch other.patch (dart one 0) (dart other 0)
            are.slot.patch_low are.across.0.patch_low (near.inside 0 near.whole.some) (far.inside 0 far.whole.some) a)

pub joinable_law : JoinableLaw
joinable_law faces marks layout manifold full lay one other are =
    joined (manifold_law faces manifold) ((full_cut_law faces marks manifold).0 full).1 lay are
