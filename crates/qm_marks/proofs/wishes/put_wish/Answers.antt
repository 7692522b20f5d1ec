use Rattle.std.proofs.Common.{Bool, ap, arith, cond, get_or, sym, ◌∙◌}
use Rattle.{def_marks.specs.Chains.runs_between, def_mesh.specs.Darts.darts, list_laws.proofs.Filters.any_in_range}
use Rattle.{qm_marks.proofs.EdgeMarks.same_edge}
use Rattle.qm_marks.proofs.wishes.put_wish.Goals as goal

pub returns-in-Some-clause-edge : goal.returns-in-Some-clause-edge
returns-in-Some-clause-edge c = sym (any_in_range (runs_between c.args.mesh.now c.args.wish.u c.args.wish.v) 0 (darts
    c.args.mesh.now) c.in-Some.d (omega arith) (omega (arith, c.in-Some.ensures.some.0)) c.in-Some.ensures.some.1)

pub returns-in-Some-clause-wishes : goal.returns-in-Some-clause-wishes
returns-in-Some-clause-wishes c on x low = c.put.ensures.wishes x low
    ∙ ap (λ (b : Bool). cond b c.args.wish.wish (get_or c.args.wishes.now x 0))
    (same_edge c.args.mesh.now c.args.wish.u c.args.wish.v c.in-Some.d x c.in-Some.ensures.some.1)
