use Rattle.std.proofs.Common.{◌-◌, ℕ, Bool, map, length}
use Rattle.{def_layout.specs.Arcs.path, qm_tmesh.specs.Sides.IsSplit, qm_tmesh.specs.Sides.IsSideSoFar}
use Rattle.qm_tmesh.proofs.sides.side.Given as goal

-- the uses so far end at t, where the next one begins
abbrev pub invariant-loop-t : goal.invariant-loop-t
invariant-loop-t l = (begins : ℕ → Bool) × IsSplit (map path l.runs.arcs.items) l.runs.uses.items l.line begins
    × IsSideSoFar (map path l.runs.arcs.items) l.runs.uses.items l.line begins l.t l.arcs.items

abbrev pub decreases-loop-t : goal.decreases-loop-t
decreases-loop-t l = length l.line - l.t
