use Rattle.std.proofs.Common.{◌≡◌, ℕ, ◌<◌, ◌≤◌, get_or, length}
use Rattle.{std.specs.Vec.vec_capacity, def_forest.specs.Forests.walk}

abbrev pub invariant-loop : Rattle.qm_forest.proofs.members.list_members.Given.invariant-loop
invariant-loop l = record {
  here : l.v ≡ walk (λ k. get_or l.lists.following.items k 0) (get_or l.lists.first.items l.x 0) l.counter;
  count : length l.list.items ≡ l.counter;
  each : (k : ℕ) → k < l.counter → get_or l.list.items k 0 ≡ walk (λ k. get_or l.lists.following.items k 0)
      (get_or l.lists.first.items l.x 0) k;
  room : vec_capacity l.fn.list ≤ vec_capacity l.list;
}
