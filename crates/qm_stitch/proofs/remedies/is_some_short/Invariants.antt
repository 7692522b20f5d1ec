use Rattle.{std.proofs.Common.◌<◌, std.proofs.Common.ℕ, def_flow.specs.declared.limits.TheConstants.MAX_FLOOR}
use Rattle.{def_remesh.specs.Numberings.used_at, qm_stitch.specs.Lengthened.lengths_by}

abbrev pub invariant-loop-used : Rattle.qm_stitch.proofs.remedies.is_some_short.Given.invariant-loop-used
invariant-loop-used l =
    (at : ℕ) → at < l.used-index → ¬ (lengths_by l.priced.keyed.numbered (used_at l.uses at).arc < MAX_FLOOR)
