use Rattle.std.proofs.Common.{◌≡◌, ℕ, ◌+◌, ◌≤◌, ◌^◌, ◌/◌, sym, ◌∙◌, ap, arith, get_or, pos, List, ℤ, Option, None, Some}
use Rattle.{def_forest.specs.Tables.GraphSize, qm_forest.specs.Ties.IsFresh, qm_forest.specs.Views.hidden_of}
use Rattle.{qm_forest.specs.Views.tables_of, qm_forest.proofs.Fresh.fresh_tied, qm_forest.proofs.Fresh.fresh_valid}
use Rattle.{qm_forest.proofs.Fresh.weight_is, qm_forest.proofs.start.single_vertices.Goals.After-new}
use Rattle.qm_forest.proofs.start.single_vertices.Goals as goal

fresh : (c : After-new) (room : Option GraphSize) → IsFresh c.n-n.result (c.n-n.result + c.n-n.result / 2)
    c.args.lows.items (tables_of c.in_ok-single_handles.field-0 c.in_ok-single_lists.field-0 c.in_ok-no_rings.field-0
    c.in_ok-empty_trail.field-0 (record { base = c.in_ok-pad.field-0; delta = pos 0 }) c.in_ok-no_tree.field-0 room)
    (hidden_of c.in_ok-single_handles.field-0 c.in_ok-single_lists.field-0 c.in_ok-empty_trail.field-0
    c.in_ok-empty_pool.field-0)
fresh c room =
    let n_is = c.requires.weights.size ∙ sym c.n-n.ensures.value in
    let few : c.n-n.result + c.n-n.result / 2 ≤ 2 ^ 26 = omega (arith, c.n-n.ensures.few) in
    let base : (k : ℕ) → get_or c.in_ok-pad.field-0.items k (pos 0) ≡ get_or c.args.lows.items k (pos 0) =
    λ k. c.in_ok-pad.ensures.each k ∙ ap (λ (xs : List ℤ). get_or xs k (pos 0)) c.deref.ensures.value in
    let handles = rw n_is at c.in_ok-single_handles.ensures in
    let trail = c.in_ok-empty_trail.ensures in
    let pool = c.in_ok-empty_pool.ensures in
    assumption (c.in_ok-single_lists.ensures, c.in_ok-no_rings.ensures, c.in_ok-pad.ensures, c.in_ok-no_tree.ensures)

pub invariant_of-result : goal.invariant_of-result
invariant_of-result c = fresh_tied (fresh (goal.at.invariant_of-result c).After-new _) c.requires.weights.small

pub returns-clause-valid : goal.returns-clause-valid
returns-clause-valid c = fresh_valid (fresh (goal.at.returns-clause-valid c).After-new _) _ c.args.g.now.small.lawful
    c.n-n.ensures.value c.requires.weights (rw c.in_ok-no_tree.ensures.near c.in_ok-near.ensures) (ap
    (λ (z : GraphSize). Some z) (c.in_ok-new.ensures ∙ rw (c.edge_count.ensures.value, c.n-n.ensures.value)))

pub returns-clause-weights : goal.returns-clause-weights
returns-clause-weights c = weight_is (fresh (goal.at.returns-clause-weights c).After-new None)
