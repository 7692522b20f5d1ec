use Rattle.std.proofs.Common.{◌≡◌, get_or, length}
use Rattle.{def_forest.specs.Forests.walk, def_forest.specs.Tables.up_at, forest_laws.specs.Walks.writes}

abbrev pub invariant-loop : Rattle.qm_forest.proofs.parting.open_ring.Given.invariant-loop
invariant-loop l = record {
  here : l.x ≡ walk (λ k. get_or l.fn.rings.after.items k 0) l.front l.counter;
  up : up_at l.rings.up.items ≡ writes (up_at l.fn.rings.up.items) (walk (λ k. get_or l.fn.rings.after.items k 0)
      l.front) (walk (λ k. get_or l.fn.rings.after.items k 0) l.front) l.counter;
  size : length l.rings.up.items ≡ length l.fn.rings.up.items;
  after : l.rings.after ≡ l.fn.rings.after;
  joint : l.rings.joint ≡ l.fn.rings.joint;
  head : l.rings.head ≡ l.fn.rings.head;
  parts : l.rings.parts ≡ l.fn.rings.parts;
}
