-- What a layout with a length for each arc gives for its sides.
use Rattle.std.proofs.Common.{◌≡◌, ℕ, zero, suc, ◌^◌, ◌<◌, ◌≤◌, List, length, arith}
use Rattle.std.proofs.{lemmas.List.length-map, lemmas.Nat.mul-le}
use Rattle.def_flow.specs.declared.limits.TheConstants.{MAX_LENGTH}
use Rattle.def_layout.specs.{Layouts.Layout, Layouts.gluing_of, Layouts.layout_of, Layouts.side_at, Arcs.long_at}
use Rattle.def_layout.specs.{Gluings.Way, Lengths.high, Lengths.wide, declared.tmesh.SideArc.SideArc}
use Rattle.embedding_laws.proofs.Bounds.{old_faces, side_few, side_most, laid_of, lengths_of}
use Rattle.written_laws.proofs.Rims.{high_some, wide_some}
use Rattle.qm_offsets.proofs.Whole.{arcs_low, side_long, sides_of}
use Rattle.qm_blocks.specs.{Spots.IsMeasured, Spots.IsSummed, declared.measured.Measured.Measured}
use Rattle.{def_cut.specs.Grids.rectangle, def_layoutnet.specs.MeshLayouts.IsSomeLayout}
use Rattle.{def_written.specs.NewFaces.cells_before, def_remesh.specs.NewPoints.lengths_in}

-- A layout has no more patches than its mesh may have faces.
pub patches_few : (layout : Layout) → IsSomeLayout layout → length layout.patches ≤ 2 ^ 21
patches_few layout is = omega (arith, up (length layout.patches) (omega arith), old_faces layout is)
  where
    up : (n : ℕ) → n ≤ length layout.patches → n ≤ cells_before (gluing_of layout) (long_at layout.arcs) n
    up zero le = omega arith
    up (suc n) le =
        let l = gluing_of layout in
        let old = long_at layout.arcs in
        let paved = (laid_of layout is).paved in
        let one = mul-le 1 1 (wide l old n) (high l old n) (wide_some l old paved (lengths_of layout is) n
        (omega (arith, le))) (high_some l old paved (lengths_of layout is) n (omega (arith, le))) in
        omega (arith, up n (omega (arith, le)), one)

-- Its sides are short enough for 64 bits at these lengths.
pub measured_of : (layout : Layout) (x : List ℕ) → IsSomeLayout layout → length x ≡ length layout.arcs
    → ((arc : ℕ) → lengths_in x arc ≤ MAX_LENGTH) → IsMeasured layout x
measured_of layout x is long bounded = record {
  whole = sides_of layout is;
  each = long;
  few = patches_few layout is;
  small = λ block way low.
      let most = side_most (gluing_of layout) (long_at layout.arcs) (lengths_in x) MAX_LENGTH (laid_of layout is)
      (lengths_of layout is) bounded block way low in
      let few = side_few (gluing_of layout) (long_at layout.arcs) (laid_of layout is) (lengths_of layout is) block way
      low in
      omega (arith, old_faces layout is);
}

-- A side of a block adds up.
pub side_summed : (measured : Measured) (block : ℕ) → block < length measured.t.now.patches.items
    → (way : Way) {side : List SideArc} → side ≡ side_at (layout_of measured.t.now) block way
    → IsSummed side measured.x.now
side_summed measured block low way {side} same =
    let there : block < length (layout_of measured.t.now).patches =
    omega (arith, low, length-map measured.t.now.patches.items rectangle) in
    let is = measured.measured in
    let long = side_long (layout_of measured.t.now) block way (lengths_in measured.x.now) side same in
    record {
      low = arcs_low (layout_of measured.t.now) is.whole.paved block way (length measured.x.now) side there is.each
          same;
      small = omega (arith, is.small block way there);
    }
