use Rattle.{std.proofs.Common.◌≡◌, std.proofs.Common.◌-◌, std.proofs.Common.get_or, def_forest.specs.Forests.walk}
use Rattle.{def_forest.specs.Tables.forest_of, qm_forest.specs.Parts.hung, qm_forest.specs.Ties.HasSameNest}

abbrev pub invariant-loop-k : Rattle.qm_forest.proofs.forest.Forest.hang_parts.Given.invariant-loop-k
invariant-loop-k l = record {
  here : l.x ≡ walk (λ i. get_or l.fn.self.after i 0) l.course.front l.k;
  back : l.before ≡ walk (λ i. get_or l.fn.self.after i 0) l.course.front (l.k - 1);
  seen : forest_of l.self ≡ hung (forest_of l.fn.self) l.course.front l.k l.course.forward;
  same : HasSameNest l.fn.self l.self;
}
