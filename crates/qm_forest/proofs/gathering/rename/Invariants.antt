use Rattle.std.proofs.Common.{◌≡◌, ℕ, get_or, cond, length, pos, ◌+ℤ◌}
use Rattle.{def_forest.specs.Forests.walk, forest_laws.specs.Walks.listed}

abbrev pub invariant-loop : Rattle.qm_forest.proofs.gathering.rename.Given.invariant-loop
invariant-loop l = record {
  here : l.v ≡ walk (λ k. get_or l.fn.lists.following.items k 0) (get_or l.fn.lists.first.items l.x 0) l.counter;
  hand : (v : ℕ) → get_or l.handles.hand.items v 0 ≡ cond (listed (λ k. get_or l.fn.lists.following.items k 0)
      (get_or l.fn.lists.first.items l.x 0) l.counter v) l.handle (get_or l.fn.handles.hand.items v 0);
  q : (v : ℕ) → get_or l.handles.q.items v (pos 0)
      ≡ cond (listed (λ k. get_or l.fn.lists.following.items k 0) (get_or l.fn.lists.first.items l.x 0) l.counter v)
      (get_or l.fn.handles.q.items v (pos 0) +ℤ l.fn.more) (get_or l.fn.handles.q.items v (pos 0));
  hands : length l.handles.hand.items ≡ length l.fn.handles.hand.items;
  qs : length l.handles.q.items ≡ length l.fn.handles.q.items;
  top : l.handles.top ≡ l.fn.handles.top;
  off : l.handles.off ≡ l.fn.handles.off;
}
