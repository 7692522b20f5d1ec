use Rattle.{std.proofs.Common.◌≡◌, std.proofs.Common.map, std.proofs.Common.take, qm_layoutnet.specs.Ends.open_arc}

abbrev pub invariant-loop-run : Rattle.qm_layoutnet.proofs.arcs.open_arcs.Given.invariant-loop-run
invariant-loop-run l = l.arcs.items ≡ map (open_arc l.set) (take l.run-index l.runs)
