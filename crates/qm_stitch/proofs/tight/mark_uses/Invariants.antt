use Rattle.std.proofs.Common.{◌≡◌, ◌<◌, ◌||◌, ℕ, false, length, get_or, take}
use Rattle.qm_stitch.specs.Tight.{is_on}

abbrev pub invariant-loop-used : Rattle.qm_stitch.proofs.tight.mark_uses.Given.invariant-loop-used
invariant-loop-used l = (arc : ℕ) → arc < length l.initial.tight
    → get_or l.tight arc false ≡ (get_or l.initial.tight arc false || is_on (take l.used-index l.uses) arc)
