use Rattle.{std.proofs.Common.rules, qm_place.proofs.Entries.arc_read}
use Rattle.qm_place.proofs.spots.even_spot.Goals as goal

pub overflow_mul-way : goal.overflow_mul-way
overflow_mul-way c = search (rules, arc_read)

pub returns-clause-some : goal.returns-clause-some
returns-clause-some c = search (rules, arc_read)
