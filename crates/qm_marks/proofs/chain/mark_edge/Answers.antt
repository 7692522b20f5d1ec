use Rattle.std.proofs.Common.{ap, arith, is_some, sym, ◌&&◌, ◌||◌, ◌∙◌}
use Rattle.{def_marks.specs.Chains.runs_between, def_mesh.specs.Darts.twin_of, list_laws.proofs.Filters.any_in_range}
use Rattle.{def_cut.specs.FullCut.is_on, def_mesh.specs.Darts.darts, qm_marks.proofs.EdgeMarks.same_edge}
use Rattle.qm_marks.proofs.chain.mark_edge.Goals as goal

pub returns-in-Some-clause-edge : goal.returns-in-Some-clause-edge
returns-in-Some-clause-edge c = sym (any_in_range (runs_between c.args.mesh.now c.args.u c.args.v) 0 (darts
    c.args.mesh.now) c.in-Some.d (omega arith) (omega (arith, c.in-Some.ensures.some.0)) c.in-Some.ensures.some.1)

pub returns-in-Some-clause-marks : goal.returns-in-Some-clause-marks
returns-in-Some-clause-marks c on x low = c.mark.ensures.marks x low
    ∙ ap (λ b. is_on c.args.marks.now x || (is_some (twin_of c.args.mesh.now x) && b))
    (same_edge c.args.mesh.now c.args.u c.args.v c.in-Some.d x c.in-Some.ensures.some.1)
