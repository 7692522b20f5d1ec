use Rattle.std.proofs.Common.{◌≡◌, take}

abbrev pub invariant-loop-x : Rattle.qm_forest.proofs.start.widen.Given.invariant-loop-x
invariant-loop-x l = l.wide.items ≡ take l.x-index l.numbers
