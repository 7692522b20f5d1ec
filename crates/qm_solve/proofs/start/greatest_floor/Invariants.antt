use Rattle.{std.proofs.Common.◌≡◌, std.proofs.Common.max, std.proofs.Common.drop, def_flow.specs.Descent.greatest_floor}

abbrev pub invariant-loop-arc : Rattle.qm_solve.proofs.start.greatest_floor.Given.invariant-loop-arc
invariant-loop-arc l = max l.most (greatest_floor (drop l.arc-index l.arcs)) ≡ greatest_floor l.arcs
