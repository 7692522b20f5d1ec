use Rattle.std.proofs.{Common.length, Common.sym, Common.◌∙◌, Common.ap, Common.subst, lemmas.List.length-map}
use Rattle.def_layout.specs.{Arcs.path, Lengths.AreLengths, Layouts.gluing_of, Layouts.Layout}
use Rattle.{def_layoutnet.specs.MeshLayouts.IsSomeLayout, def_remesh.specs.NewPoints.lengths_in}
use Rattle.mesh_tests.proofs.stitched.stitched_text.Goals as goal

pub stitch-requires-clause-layout : goal.stitch-requires-clause-layout
stitch-requires-clause-layout g c = subst IsSomeLayout (sym c.layout.ensures.layout) c.layout.ensures.laid.0

pub stitch-requires-clause-long : goal.stitch-requires-clause-long
stitch-requires-clause-long g c = (c.are_lengths.ensures c.if-not-are_lengths.false).long ∙ ap
    (λ (p : Layout). length p.arcs) (sym c.layout.ensures.layout) ∙ length-map c.layout.result.now.arcs.items path

pub stitch-requires-clause-lengths : goal.stitch-requires-clause-lengths
stitch-requires-clause-lengths g c = subst (λ (p : Layout). AreLengths (gluing_of p) (lengths_in c.args.lengths.now))
    (sym c.layout.ensures.layout) (c.are_lengths.ensures c.if-not-are_lengths.false).lengths
