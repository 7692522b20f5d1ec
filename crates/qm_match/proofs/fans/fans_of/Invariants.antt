use Rattle.{std.proofs.Common.◌*◌, qm_match.specs.Fans.AreFansOf}

abbrev pub invariant-loop-e : Rattle.qm_match.proofs.fans.fans_of.Given.invariant-loop-e
invariant-loop-e l = AreFansOf l.g.graph (2 * l.e) l.fans.first.items l.fans.next.items
