use Rattle.std.proofs.Common.{rules, add-one, ◌≡◌, ◌<◌, ◌++◌, ◌∙◌, [], ◌∷◌, length, arith}
use Rattle.std.proofs.{lemmas.Grind.common_steps, lemmas.List.get_or_read}
use Rattle.qm_forest.proofs.Chosens.{copied_more}

pub loop-preserved : Rattle.qm_forest.proofs.members.list_members.Goals.loop-preserved
loop-preserved c =
    let end = get_or_read c.args.lists.now.rank.items c.args.x _ c.requires.lists.rank c.index-end.ensures 0 in
    let low : c.loop.v < length c.args.lists.now.following.items =
    rw c.loop.invariant.here (c.requires.lists.low _ (omega (arith, c.loop-test.true))) in
    let pushed : c.push.new.self.items ≡ c.loop.list.items ++ c.loop.v ∷ [] = grind (arith, common_steps) in
    record {
      here = get_or_read c.args.lists.now.following.items c.loop.v _ low c.index-v-in-loop.ensures 0
          ∙ rw (add-one c.loop.counter, c.loop.invariant.here);
      count = search rules;
      each = copied_more _ _ _ pushed c.loop.invariant.count c.loop.invariant.here c.loop.invariant.each;
      room = omega arith;
    }
