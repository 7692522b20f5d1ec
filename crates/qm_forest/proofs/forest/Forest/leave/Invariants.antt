use Rattle.{std.proofs.Common.◌≡◌, std.proofs.Common.get_or, def_forest.specs.Forests.walk}
use Rattle.{def_forest.specs.Tables.forest_of, qm_forest.specs.Ties.HasSameNest, qm_forest.specs.Ties.left_alone}

abbrev pub invariant-loop : Rattle.qm_forest.proofs.forest.Forest.leave.Given.invariant-loop
invariant-loop l = record {
  here : l.x ≡ walk (λ k. get_or l.fn.self.after k 0) l.front l.counter;
  seen : forest_of l.self ≡ left_alone (forest_of l.fn.self) l.front l.counter;
  same : HasSameNest l.fn.self l.self;
}
