use Rattle.{std.proofs.Common.◌≡◌, def_forest.specs.Darts.darts_of, def_forest.specs.Tables.forest_of}
use Rattle.{forest_laws.specs.Climbing.way_of, qm_forest.specs.Rings.IsRingedAlike, qm_forest.specs.Rings.laid_up}

abbrev pub invariant-loop : Rattle.qm_forest.proofs.forest.Forest.lay_up.Given.invariant-loop
invariant-loop l = record {
  here : l.x ≡ way_of (darts_of l.g.graph) (forest_of l.fn.self) l.c l.counter;
  seen : forest_of l.self ≡ laid_up (darts_of l.g.graph) (forest_of l.fn.self) l.c l.counter;
  same : IsRingedAlike l.fn.self l.self;
}
