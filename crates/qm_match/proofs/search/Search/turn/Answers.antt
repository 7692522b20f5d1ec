use Rattle.std.proofs.Common.{rules, ◌∙◌, sym, refl, arith}
use Rattle.search_laws.proofs.Counted.{fewer_stale, fewer_turns}
use Rattle.{def_forest.specs.Tables.forest_of, qm_match.proofs.Chains.mended_way, qm_match.proofs.Chains.risen_few}
use Rattle.qm_match.proofs.search.Search.turn.Goals as goal

pub returns-then-key-clause-way : goal.returns-then-key-clause-way
returns-then-key-clause-way c = λ e. rw (c.set_leaf.ensures, c.true_key-key.ensures)
    (mended_way c.least_leaf-leaf.result c.requires.way c.least_leaf-leaf.ensures.low)

pub returns-then-key-clause-fewer : goal.returns-then-key-clause-fewer
returns-then-key-clause-fewer c = λ e. rw (c.set_leaf.ensures, c.true_key-key.ensures)
    (fewer_stale _ (forest_of c.args.self.now.forest) _ _ _ _ c.least_leaf-leaf.ensures.low (search rules) refl)

pub rise_to-requires : goal.rise_to-requires
rise_to-requires c = record {
  way = c.requires.way;
  high = search (rules, risen_few);
  least = λ k l. omega (arith, c.least_leaf-leaf.ensures.least k 0 l, c.requires.way.low k l, c.key.ensures);
}

pub step-requires : goal.step-requires
step-requires c = record {
  way = c.rise_to.ensures.way;
  low = rw c.rise_to.ensures.tour c.least_leaf-leaf.ensures.low;
  here = grind (arith, c.rise_to.ensures.keys c.least_leaf-leaf.result c.least_leaf-leaf.ensures.low);
  few = omega (arith, risen_few c.rise_to.ensures.way);
}

pub returns-clause-goes_on : goal.returns-clause-goes_on
returns-clause-goes_on c = λ e v seeking. c.step.ensures.goes_on e v (c.rise_to.ensures.goes_on v seeking)

pub returns-clause-fewer : goal.returns-clause-fewer
returns-clause-fewer c = λ e. fewer_turns c.args.g.now.graph (forest_of c.args.self.now.forest)
    (forest_of c.step.new.self.forest) c.args.self.now.risen c.step.new.self.risen c.args.self.now.tour
    c.step.new.self.tour ((c.step.ensures.way e).made.leaves ∙ sym c.requires.way.made.leaves)
    (omega (arith, c.rise_to.ensures.steps, c.step.ensures.fewer e))
