use Rattle.std.proofs.Common.{rules, ◌≡◌, ◌+◌, ◌-◌, Some, is_some, ap, ◌∙◌, sym, arith}
use Rattle.{std.proofs.lemmas.Option.same_Some, def_mesh.specs.Darts.straight_of, def_mesh.specs.HalfEdges.half_edges}
use Rattle.{def_cut.specs.Steps.easts, qm_tmesh.proofs.Walks.listed_more}
use Rattle.qm_tmesh.proofs.sides.line.Goals.{After-straight}
use Rattle.qm_tmesh.proofs.sides.line.Goals as goal

-- The dart straight on is the next one of the line.
straight : (c : After-straight) → c.straight.result
    ≡ Some (easts (half_edges c.args.mesh.now) c.args.first c.steps.counter)
straight c =
    let place : c.steps.counter - 1 + 1 ≡ c.steps.counter = omega arith in
    c.straight.ensures.value ∙ (ap (straight_of c.args.mesh.now) (c.steps.invariant.at (c.steps.counter - 1) place)
    ∙ rw place at (c.requires.straight (c.steps.counter - 1) (omega (arith, c.steps-test.true))))

pub unwrap-d-requires : goal.unwrap-d-requires
unwrap-d-requires c = ap is_some (straight (goal.at.unwrap-d-requires c).After-straight)

pub steps-preserved : goal.steps-preserved
steps-preserved c =
    let is = same_Some _ _ (sym c.unwrap-d.ensures ∙ straight (goal.at.steps-preserved c).After-straight) in
    record {
      at = λ k e. let same : k ≡ c.steps.counter = omega arith in rw same is;
      low = rw c.unwrap-d.ensures at c.straight.ensures.dart;
      listed = search (rules, listed_more);
    }
