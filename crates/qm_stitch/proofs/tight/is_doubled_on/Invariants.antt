use Rattle.qm_stitch.specs.{Lengthened.gluing_in, Lengthened.lengths_by, Tight.IsDoubled}
use Rattle.{std.proofs.Common.◌<◌, std.proofs.Common.ℕ, def_written.specs.Edges.on_arc}

abbrev pub invariant-loop-k : Rattle.qm_stitch.proofs.tight.is_doubled_on.Given.invariant-loop-k
invariant-loop-k l = (k : ℕ) → k < l.k
    → ¬ IsDoubled (gluing_in l.keyed.numbered) (lengths_by l.keyed.numbered) (on_arc l.arc k)
