use Rattle.std.specs.Io.KnownBytes.{Keeps}

abbrev pub invariant-tries : Rattle.qm_io.proofs.streams.write_on.Given.invariant-tries
invariant-tries g l = Keeps (g.W.Write.contents l.initial.inner) (g.W.Write.contents l.inner)
