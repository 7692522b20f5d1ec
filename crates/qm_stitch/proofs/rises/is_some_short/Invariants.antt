use Rattle.{std.proofs.Common.◌<◌, std.proofs.Common.ℕ, qm_stitch.specs.Raised.IsShortTight}

abbrev pub invariant-loop-arc : Rattle.qm_stitch.proofs.rises.is_some_short.Given.invariant-loop-arc
invariant-loop-arc l = (arc : ℕ) → arc < l.arc → ¬ IsShortTight l.marked.tight.now l.marked.lengths.now arc
