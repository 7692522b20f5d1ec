use Rattle.{std.proofs.Common.rules, std.proofs.Common.◌∙◌, mesh_laws.proofs.Chains.manifold_law}
use Rattle.{motion_laws.proofs.Marks.among_at, motion_laws.proofs.Marks.cover_more, qm_trace.proofs.Tellings.among_more}
use Rattle.qm_trace.proofs.marks.Trail.cover_each.Goals as goal

pub cover_edge-requires-clause-dart : goal.cover_edge-requires-clause-dart
cover_edge-requires-clause-dart c = c.args.self.now.low _ (search (rules, among_at))

pub loop-d-preserved : goal.loop-d-preserved
loop-d-preserved c d low =
    let t = c.args.self.now in
    let ds = t.darts.now in
    rw c.cover_edge.ensures (cover_more _ (manifold_law t.mesh.now c.faces-known.ensures.mesh.manifold) _ _
    (t.low _ (among_at ds _ c.loop-d-test.true)) (c.loop-d.auto.covered ∙ c.requires) _ _
    (λ e. among_more ds _ e c.loop-d-test.true) _ d low (c.loop-d.invariant d low))
