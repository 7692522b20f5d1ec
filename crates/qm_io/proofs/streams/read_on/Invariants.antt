use Rattle.std.specs.Io.KnownBytes.{Keeps}

abbrev pub invariant-tries : Rattle.qm_io.proofs.streams.read_on.Given.invariant-tries
invariant-tries g l = Keeps (g.R.Read.remaining l.initial.inner) (g.R.Read.remaining l.inner)
