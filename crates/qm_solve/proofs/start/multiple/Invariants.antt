use Rattle.{std.proofs.Common.◌≡◌, std.proofs.Common.take, def_flow.specs.Descent.times_old}

abbrev pub invariant-loop-arc : Rattle.qm_solve.proofs.start.multiple.Given.invariant-loop-arc
invariant-loop-arc l = l.lengths.items ≡ times_old l.times (take l.arc-index l.arcs)
