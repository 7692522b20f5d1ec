use Rattle.std.proofs.Common.{rules, add-one, ◌≡◌, ◌<◌, ◌∙◌, get_or, refl, arith, pos}
use Rattle.qm_forest.proofs.RenamedRows.{next_low, next_old, next_written, more_as}
use Rattle.qm_forest.proofs.gathering.rename.Goals.{After-index-end, After-index_mut-in-loop}
use Rattle.{std.proofs.lemmas.Int.ints, std.proofs.lemmas.List.get_or_read, qm_forest.proofs.TiedWrites.kept_in_bits}
use Rattle.qm_forest.proofs.gathering.rename.Goals as goal

many_is : (c : After-index-end) → c.index-end.result.now ≡ get_or c.args.lists.now.rank.items c.args.x 0
many_is c = get_or_read c.args.lists.now.rank.items c.args.x _ c.requires.lists.rank c.index-end.ensures 0

-- The number of the vertex at hand has not been changed.
read : (c : After-index_mut-in-loop) → c.loop.counter < get_or c.args.lists.now.rank.items c.args.x 0
    → c.index_mut-in-loop.result.now ≡ get_or c.args.handles.now.q.items c.loop.v (pos 0)
read c l = get_or_read c.loop.handles.q.items c.loop.v _ (rw (c.loop.invariant.qs, c.requires.lists.q)
    (next_low c.requires.lists l c.loop.invariant.here)) c.index_mut-in-loop.ensures.value (pos 0) ∙ next_old
    c.requires.lists l c.loop.invariant.here _ _ _ c.loop.invariant.q

pub overflow_add-index_mut : goal.overflow_add-index_mut
overflow_add-index_mut c =
    let at = goal.at.overflow_add-index_mut c in
    let was = read at.After-index_mut-in-loop (omega (arith, c.loop-test.true, many_is at.After-index-end)) in
    omega (arith, ints, c.requires.lists.small c.loop.v, c.requires.more)

pub loop-preserved : goal.loop-preserved
loop-preserved c =
    let at = goal.at.loop-preserved c in
    let l : c.loop.counter < get_or c.args.lists.now.rank.items c.args.x 0 =
    omega (arith, c.loop-test.true, many_is at.After-index-end) in
    let low = next_low c.requires.lists l c.loop.invariant.here in
    record {
      here = get_or_read c.args.lists.now.following.items c.loop.v _ (rw c.requires.lists.following low)
          c.index-v-in-loop.ensures 0 ∙ rw (add-one _, c.loop.invariant.here);
      hand = next_written c.requires.lists l c.loop.invariant.here _ 0 _ _ (rw c.loop.invariant.hands low)
          c.loop.invariant.hand (add-one _) refl;
      q = next_written c.requires.lists l c.loop.invariant.here _ (pos 0) _ _
          (rw (c.loop.invariant.qs, c.requires.lists.q) low) c.loop.invariant.q (add-one _)
          (omega (arith, ints, read at.After-index_mut-in-loop l, c.requires.lists.small c.loop.v, c.requires.more));
      hands = search rules;
      qs = search rules;
      top = c.loop.invariant.top;
      off = c.loop.invariant.off;
    }

pub returns : goal.returns
returns c =
    let all : c.loop.counter ≡ get_or c.args.lists.now.rank.items c.args.x 0 =
    (let many = many_is (goal.at.returns c).After-index-end in
    omega (arith, c.loop-test.false, c.loop.auto.counter-end)) in
    let q = rw all at (more_as _ _ (λ u. get_or c.args.handles.now.q.items u (pos 0))
    (kept_in_bits c.args.more c.requires.more) c.loop.invariant.q) in
    assumption (rw all at c.loop.invariant.hand)
