use Rattle.std.proofs.Common.{◌∙◌, ◌+◌, ℕ, List, ap, arith, drop, set, subst, sym}
use Rattle.std.proofs.lemmas.List.{with_items_is}
use Rattle.qm_tour.specs.Trees.{IsTreeBut, HasSameLeaves, parent}
use Rattle.{std.specs.Vec.with_item, qm_tour.proofs.Mended.leaf_changed, qm_tour.proofs.Mended.leaf_set}
use Rattle.qm_tour.proofs.tour.Tour.set.Goals as goal

pub settle-requires-clause-tree : goal.settle-requires-clause-tree
settle-requires-clause-tree c = subst (IsTreeBut c.self.inside.first (parent (c.self.inside.first + c.args.leaf)))
    (sym c.deref_mut.ensures.value)
    (leaf_changed c.self.invariant (c.self.inside.first + c.args.leaf) c.args.key (omega arith))

pub returns-then-index-key : goal.returns-then-index-key
returns-then-index-key c = ap (drop c.self.inside.first)
    (with_items_is (with_item c.self.inside.keys (c.self.inside.first + c.args.leaf) c.args.key) c.settle.new.keys
    (c.settle.auto.keys ∙ c.deref_mut.ensures.len)) ∙ (leaf_set c.self.inside.keys.items c.args.leaf c.args.key
    (subst (λ (xs : List ℕ). HasSameLeaves c.self.inside.first xs c.settle.new.keys) c.deref_mut.ensures.value
    c.settle.ensures.leaves) ∙ ap (λ (xs : List ℕ). set xs c.args.leaf c.args.key) (c.self.view_is ∙ c.count.ensures))
