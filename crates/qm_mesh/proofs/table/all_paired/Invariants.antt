use Rattle.std.proofs.Common.{ℕ, ◌<◌, get_or}
use Rattle.{def_mesh.specs.Darts.prev_of, qm_mesh.specs.Pairs.IsPaired}

-- The corners so far have both twins.
abbrev pub invariant-loop-d : Rattle.qm_mesh.proofs.table.all_paired.Given.invariant-loop-d
invariant-loop-d l = (t : ℕ) → t < l.d-index → IsPaired l.twins (get_or l.fan t 0)
    × IsPaired l.twins (prev_of (get_or l.fan t 0))
