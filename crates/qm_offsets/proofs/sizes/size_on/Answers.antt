use Rattle.std.proofs.Common.{◌≡◌, ℕ, ◌^◌, ◌<◌, ◌≤◌, length, ◌∙◌, ap, sym, arith}
use Rattle.{std.proofs.lemmas.List.length-map, def_layoutnet.specs.MeshLayouts.IsSomeLayout}
use Rattle.def_layout.specs.{Arcs.long_at, Arcs.path, Gluings.Way, Lengths.size, Layouts.gluing_of, Layouts.way_number}
use Rattle.def_layout.specs.{Layouts.layout_of, declared.tmesh.TMesh.TMesh}
use Rattle.embedding_laws.proofs.Bounds.{laid_of, lengths_of, old_faces, side_few, side_most}
use Rattle.qm_offsets.proofs.Whole.{side_long, sides_of, uses_low, way_for}
use Rattle.{def_cut.specs.Grids.rectangle, def_remesh.specs.NewPoints.lengths_in, qm_offsets.specs.Fours.arcs_on}
use Rattle.qm_offsets.proofs.sizes.size_on.Goals as goal

-- Sides are short enough for 64 bits.
short : (t : TMesh) (x : ℕ → ℕ) (is : IsSomeLayout (layout_of t)) → ((a : ℕ) → x a ≤ 10 ^ 12) → (p : ℕ) (s : Way)
    → p < length t.patches.items → size (gluing_of (layout_of t)) x p s < 2 ^ 64
short t x is most p s low =
    let l_low : p < length (layout_of t).patches = omega (arith, low, length-map t.patches.items rectangle) in
    omega (
      arith,
      side_most (gluing_of (layout_of t)) (long_at (layout_of t).arcs) x (10 ^ 12) (laid_of (layout_of t) is)
          (lengths_of (layout_of t) is) most p s l_low,
      side_few (gluing_of (layout_of t)) (long_at (layout_of t).arcs) (laid_of (layout_of t) is)
          (lengths_of (layout_of t) is) p s l_low,
      old_faces (layout_of t) is,
    )

read : (c : goal.After-side_of) (way : Way) → way_number way ≡ c.args.side → c.side_of.result.now
    ≡ arcs_on (layout_of c.args.t.now) c.args.patch (way_number way)
read c way is = c.side_of.ensures ∙ ap (arcs_on (layout_of c.args.t.now) c.args.patch) (sym is)

pub side_of-requires-clause-sides : goal.side_of-requires-clause-sides
side_of-requires-clause-sides c = sides_of (layout_of c.args.t.now) c.requires.layout

pub size_of-requires-clause-low : goal.size_of-requires-clause-low
size_of-requires-clause-low c =
    let way : (way : Way) × (way_number way ≡ c.args.side) = way_for c.args.side c.requires.side in
    uses_low (layout_of c.args.t.now) c.requires.layout c.args.patch way.0 (length c.args.lengths.now)
    c.side_of.result.now (omega (arith, c.requires.patch, length-map c.args.t.now.patches.items rectangle))
    (omega (arith, c.requires.long, length-map c.args.t.now.arcs.items path)) (read c way.0 way.1)

pub size_of-requires-clause-small : goal.size_of-requires-clause-small
size_of-requires-clause-small c =
    let way : (way : Way) × (way_number way ≡ c.args.side) = way_for c.args.side c.requires.side in
    omega (
      arith,
      side_long (layout_of c.args.t.now) c.args.patch way.0 (lengths_in c.args.lengths.now) c.side_of.result.now
          (read c way.0 way.1),
      short c.args.t.now (lengths_in c.args.lengths.now) c.requires.layout c.requires.bounded c.args.patch way.0
          c.requires.patch,
    )
