use Rattle.std.proofs.Common.{length, sym, ◌∙◌, ap, subst, arith}
use Rattle.def_layout.specs.{Arcs.path, Lengths.size, Layouts.gluing_of, Layouts.Layout}
use Rattle.{std.proofs.lemmas.List.length-map, def_layoutnet.specs.MeshLayouts.IsSomeLayout}
use Rattle.{def_cut.specs.Grids.rectangle, def_remesh.specs.NewPoints.lengths_in}
use Rattle.mesh_tests.proofs.lengths.sum_on.Goals as goal

pub size_on-requires-clause-layout : goal.size_on-requires-clause-layout
size_on-requires-clause-layout c = subst IsSomeLayout (sym c.layout.ensures.layout) c.layout.ensures.laid.0

pub size_on-requires-clause-patch : goal.size_on-requires-clause-patch
size_on-requires-clause-patch c = omega (
  arith,
  c.requires.patch,
  ap (λ (p : Layout). length p.patches) c.layout.ensures.layout,
  length-map c.layout.result.now.patches.items rectangle,
)

pub size_on-requires-clause-long : goal.size_on-requires-clause-long
size_on-requires-clause-long c = c.requires.long ∙ ap (λ (p : Layout). length p.arcs) (sym c.layout.ensures.layout)
    ∙ length-map c.layout.result.now.arcs.items path

pub returns : goal.returns
returns c way is = c.size_on.ensures way is ∙ ap (λ (p : Layout). size (gluing_of p) (lengths_in c.args.lengths.now)
    c.args.patch way) c.layout.ensures.layout
