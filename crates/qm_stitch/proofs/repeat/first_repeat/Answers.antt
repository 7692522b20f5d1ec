use Rattle.std.proofs.Common.{rules}
use Rattle.{qm_stitch.proofs.Repeats.none_is}

pub returns-clause-none : Rattle.qm_stitch.proofs.repeat.first_repeat.Goals.returns-clause-none
returns-clause-none c none = none_is _ c.requires (search rules)
