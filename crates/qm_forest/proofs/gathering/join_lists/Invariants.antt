use Rattle.std.proofs.Common.{◌≡◌, suc, get_or, length}
use Rattle.{def_forest.specs.Forests.walk, def_forest.specs.Forests.ring_sum, forest_laws.specs.Walks.writes}

abbrev pub invariant-loop : Rattle.qm_forest.proofs.gathering.join_lists.Given.invariant-loop
invariant-loop l = record {
  here : l.x ≡ walk (λ k. get_or l.fn.after k 0) l.front l.counter;
  total : l.total ≡ ring_sum (λ k. get_or l.fn.after k 0) (λ k. get_or l.fn.lists.rank.items k 0) l.front
      (suc l.counter);
  following : (λ k. get_or l.lists.following.items k 0) ≡ writes (λ k. get_or l.fn.lists.following.items k 0)
      (λ k. get_or l.fn.lists.last.items (walk (λ k. get_or l.fn.after k 0) l.front k) 0)
      (λ k. get_or l.fn.lists.first.items (walk (λ k. get_or l.fn.after k 0) l.front (suc k)) 0) l.counter;
  size : length l.lists.following.items ≡ length l.fn.lists.following.items;
  first : l.lists.first ≡ l.fn.lists.first;
  last : l.lists.last ≡ l.fn.lists.last;
  rank : l.lists.rank ≡ l.fn.lists.rank;
  leader : l.lists.leader ≡ l.fn.lists.leader;
}
