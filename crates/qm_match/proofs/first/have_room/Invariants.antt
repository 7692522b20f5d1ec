use Rattle.{std.proofs.Common.ℕ, std.proofs.Common.◌<◌, qm_match.specs.Weights.HasRoom}

abbrev pub invariant-loop-e : Rattle.qm_match.proofs.first.have_room.Given.invariant-loop-e
invariant-loop-e l = (e : ℕ) → e < l.e → HasRoom l.g.graph l.numbers e
