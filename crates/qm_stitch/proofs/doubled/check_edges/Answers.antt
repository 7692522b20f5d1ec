use Rattle.std.proofs.Common.{rules, refl}
use Rattle.qm_stitch.proofs.{DoubledPairs.first_doubled, DoubledPairs.none_doubled, Grids.tables_are}
use Rattle.qm_stitch.proofs.doubled.check_edges.Goals as goal

pub invariant_of-numbered : goal.invariant_of-numbered
invariant_of-numbered c = record { numbers = tables_are c.requires }

pub returns-in-Some-clause-refused : goal.returns-in-Some-clause-refused
returns-in-Some-clause-refused c = search (rules, first_doubled (tables_are c.requires))

pub returns-in-None-clause-undoubled : goal.returns-in-None-clause-undoubled
returns-in-None-clause-undoubled c =
    none_doubled (tables_are c.requires) (rw c.in_ok-rim_keys.ensures at (c.in-None.ensures.none refl))
