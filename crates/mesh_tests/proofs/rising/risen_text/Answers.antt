use Rattle.std.proofs.Common.{subst}
use Rattle.def_layout.specs.Layouts.{gluing_of, layout_of, Layout}
use Rattle.def_remesh.specs.{NewPoints.lengths_in, Remeshed.AreDoubled, Stitched.IsUnstitched}
use Rattle.mesh_tests.proofs.rising.risen_text.Goals as goal

pub rises_over-requires-clause-doubled : goal.rises_over-requires-clause-doubled
rises_over-requires-clause-doubled g c =
    let refused = subst (IsUnstitched (gluing_of (layout_of c.layout.result.now)) (lengths_in c.args.lengths.now))
    c.in-Err-Doubled.field-0-is c.in-Err-Doubled.ensures.refused in
    subst (λ (p : Layout). AreDoubled p c.args.lengths.now) c.layout.ensures.layout
    (c.in-Err-Doubled.field-0-0, c.in-Err-Doubled.field-0-1, refused.1.doubled)
