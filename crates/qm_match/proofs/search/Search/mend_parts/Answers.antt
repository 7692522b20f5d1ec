use Rattle.std.proofs.Common.{rules, ◌≡◌, suc, ◌+◌, ◌∙◌, below_more, get_or, true, false, ap, arith}
use Rattle.{qm_match.specs.declared.search.Search.Search, qm_match.proofs.Stepped.may_part}
use Rattle.{def_forest.specs.Tables.forest_of, search_laws.specs.Keys.AreRightAt, qm_match.proofs.Stepped.part_of}
use Rattle.qm_match.proofs.Chains.{mended_on, stay_right}
use Rattle.qm_match.proofs.search.Search.mend_parts.Goals as goal

pub mend_marked-requires : goal.mend_marked-requires
mend_marked-requires c =
    let i = c.loop.invariant in
    may_part c.requires _ (grind arith) (ap (λ (s : Search). s.forest) i.same) i.here

pub loop-preserved : goal.loop-preserved
loop-preserved c =
    let one : suc c.loop.counter ≡ c.loop.counter + 1 = omega arith in
    let g = c.args.g.now.graph in
    let s = c.args.self.now in
    let f = forest_of s.forest in
    let i = c.loop.invariant in
    let mended = rw i.same at c.mend_marked.ensures.mended in
    record {
      same = rw (c.mend_marked.ensures.same, i.same);
      room = c.mend_marked.ensures.room;
      here = search rules;
      mended = mended_on g f _ i.mended mended;
      right = below_more (λ k. get_or s.inner.items _ _ ≡ true → AreRightAt g f s.risen c.mend_marked.new.self.tour
          (f.holds _)) _ (λ k l mark. stay_right g f s.risen (f.holds ((part_of s.forest _) k)) mended
          (i.right k l mark)) (rw (i.same, i.here) at c.mend_marked.ensures.right);
    }

pub returns-clause-right : goal.returns-clause-right
returns-clause-right c =
    λ k l. c.loop.invariant.right k (omega (arith, l, c.loop-test.false, c.loop.auto.counter-end, c.parts-end.ensures))
