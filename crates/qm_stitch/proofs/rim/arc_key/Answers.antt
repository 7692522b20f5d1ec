use Rattle.std.proofs.Common.{rules}
use Rattle.{qm_stitch.proofs.Grids.counts, written_laws.proofs.EdgeNumbers.number_low}

pub overflow_add-k : Rattle.qm_stitch.proofs.rim.arc_key.Goals.overflow_add-k
overflow_add-k c = search (rules, counts, number_low)
