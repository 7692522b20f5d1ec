use Rattle.std.proofs.lemmas.Grind.{common_steps}
use Rattle.std.proofs.Common.{rules, ◌≡◌, ◌-◌, ◌/◌, ◌<◌, ◌∙◌, length, get_or, arith}
use Rattle.std.proofs.{Math.ListN.set, lemmas.List.get_or-set_same, lemmas.List.get_or_read}
use Rattle.qm_match.proofs.Chains.{mended_on, mended_one, passed_more, stays_right, vertex_right}
use Rattle.qm_match.proofs.search.Search.mend_vertex.Goals.{After-index-entry-in-loop-entry}
use Rattle.{def_forest.specs.Tables.forest_of, search_laws.specs.Keys.true_key}
use Rattle.qm_match.proofs.search.Search.mend_vertex.Goals as goal

-- The entry after one of the chain.
read : (c : After-index-entry-in-loop-entry) → c.index-entry-in-loop-entry.result.now
    ≡ get_or c.args.self.now.fans.next.items (c.loop-entry.entry - 1) 0
read c = search (rules, get_or_read)

pub mend-requires : goal.mend-requires
mend-requires c =
    let low = c.loop-entry.invariant.mended.size in
    rw c.loop-entry.invariant.same (record {
      made = assumption (low ∙ c.requires.made.leaves);
      valid = c.requires.valid;
      low = omega (arith, low, c.requires.made.leaves);
    })

pub loop-entry-smaller : goal.loop-entry-smaller
loop-entry-smaller c = grind (arith, common_steps, c.requires.made.fans.nexts (c.loop-entry.entry - 1))

pub loop-entry-preserved : goal.loop-entry-preserved
loop-entry-preserved c =
    let next = read (goal.at.loop-entry-preserved c).After-index-entry-in-loop-entry in
    let g = c.args.g.now.graph in
    let s = c.args.self.now in
    let f = forest_of s.forest in
    let i = c.loop-entry.invariant in
    let leaf = (c.loop-entry.entry - 1) / 2 in
    let low : leaf < length c.loop-entry.self.tour = omega (arith, i.mended.size, c.requires.made.leaves) in
    let tour_is : c.mend.new.self.tour ≡ set c.loop-entry.self.tour leaf (true_key g f s.risen leaf) =
    rw (c.mend.ensures, i.same) in
    let one = mended_one g f _ _ low tour_is in
    record {
      same = rw (c.mend.ensures, i.same);
      low = grind (arith, c.requires.made.fans.nexts (c.loop-entry.entry - 1));
      mended = mended_on g f _ i.mended one;
      done = passed_more _ _ (omega arith) next (λ d. stays_right g f _ _ one) (search rules) i.done;
    }

pub returns-clause-right : goal.returns-clause-right
returns-clause-right c = let s = c.args.self.now in
    vertex_right _ (forest_of s.forest) _ _ _ c.requires.made.fans (omega arith) c.loop-entry.invariant.done
