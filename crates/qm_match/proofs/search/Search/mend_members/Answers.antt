use Rattle.std.proofs.Common.{rules, ◌≡◌, ◌<◌, below_more, eqb, length, get_or, arith}
use Rattle.{std.proofs.lemmas.List.get_or_read, qm_match.proofs.Chains.mended_on, qm_match.proofs.Chains.stay_right}
use Rattle.{def_forest.specs.Tables.forest_of, search_laws.specs.Keys.AreRightAt}
use Rattle.qm_match.proofs.search.Search.mend_members.Goals as goal

pub loop-k-preserved : goal.loop-k-preserved
loop-k-preserved c =
    let g = c.args.g.now.graph in
    let s = c.args.self.now in
    let f = forest_of s.forest in
    let i = c.loop-k.invariant in
    let mended = rw i.same at c.mend_vertex.ensures.mended in
    let v_is : c.index-v.result.now ≡ get_or s.members.items c.loop-k.k 0 = search (rules, get_or_read) in
    record {
      same = rw (c.mend_vertex.ensures.same, i.same);
      mended = mended_on g f _ i.mended mended;
      done = below_more (λ j. AreRightAt g f _ _ (λ w. eqb w (get_or s.members.items j 0))) _
          (λ j l. search (rules, stay_right g f s.risen, i.done j l))
          (rw (i.same, v_is) at c.mend_vertex.ensures.right);
    }

pub returns-clause-right : goal.returns-clause-right
returns-clause-right c =
    λ k l. c.loop-k.invariant.done k (omega (arith, l, c.loop-k-test.false, c.loop-k.auto.k-end, c.len-k-end.ensures))
