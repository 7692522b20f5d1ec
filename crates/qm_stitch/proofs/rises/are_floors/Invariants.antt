use Rattle.std.proofs.Common.{◌<◌, ℕ, length}
use Rattle.{def_remesh.specs.Rises.rise_at, qm_stitch.specs.Raised.IsFloorOf}

abbrev pub invariant-loop-rise : Rattle.qm_stitch.proofs.rises.are_floors.Given.invariant-loop-rise
invariant-loop-rise l = (k : ℕ) → k < l.rise-index → ((rise_at l.rises k).arc < length l.marked.lengths.now)
    × IsFloorOf l.some l.marked.tight.now l.marked.lengths.now (rise_at l.rises k).arc (rise_at l.rises k).floor
