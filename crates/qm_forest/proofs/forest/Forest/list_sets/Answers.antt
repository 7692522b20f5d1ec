use Rattle.std.proofs.Common.{rules, ◌≡◌, length, ap, arith}
use Rattle.{std.proofs.lemmas.List.Sorted.length_permutation, def_forest.specs.Tables.ForestTables}
use Rattle.{qm_forest.proofs.Waitings.sets_moved, qm_forest.proofs.Waitings.sets_none}
use Rattle.qm_forest.proofs.forest.Forest.list_sets.Goals as goal

pub loop-b-init : goal.loop-b-init
loop-b-init c = record {
  count = search rules;
  room = omega arith;
  has = rw c.vertices-b.ensures (sets_none _ _ (ap length c.clear.ensures.items));
}

pub returns : goal.returns
returns c =
    let up = ap (λ (t : ForestTables). length t.up) c.self.view_is in
    let hand = ap (λ (t : ForestTables). length t.hand) c.self.view_is in
    let all : c.loop-b.b ≡ length c.args.self.now.up =
    omega (arith, c.loop-b-test.false, c.loop-b.auto.b-end, c.len-b-end.ensures, c.vertices-b.ensures) in
    record {
      has = sets_moved _ c.sort.ensures.moved (rw all at c.loop-b.invariant.has);
      few = (let moved = length_permutation c.loop-b.sets.items c.sort.new.sets.items c.sort.ensures.moved in
          omega (arith, c.loop-b.invariant.count));
      increasing = c.sort.ensures.increasing;
    }
