use Rattle.std.proofs.Common.{◌≡◌, ◌+◌, ◌<◌, ◌≤◌, ℕ, List, length, sym, inr, arith}
use Rattle.{std.specs.Prelude.slice_index, def_math.specs.Counts.count_below, def_math.specs.Runs.run_at}
use Rattle.{def_remesh.specs.Numberings.AreRunStarts, qm_offsets.proofs.Spots.spot_between}
use Rattle.qm_offsets.proofs.spot.spot_near.Goals as goal

-- A run that holds a place is the run there.
held : (starts : List ℕ) (run place : ℕ) → (run + 1 < length starts) × (slice_index starts run ≤ place)
    × (place < slice_index starts (run + 1))
    → (sizes : ℕ → ℕ) (runs : ℕ) → AreRunStarts sizes runs starts → run ≡ run_at (count_below sizes) runs place
held starts run place holds sizes runs are = sym (spot_between sizes runs place run (omega (arith, holds.0, are.count))
    (inr (omega (arith, holds.1, are.each run (omega (arith, holds.0, are.count)))))
    (inr (omega (arith, holds.2, are.each (run + 1) (omega (arith, holds.0, are.count))))))

pub returns-then-holds-clause-run : goal.returns-then-holds-clause-run
returns-then-holds-clause-run c = held c.args.starts.now c.args.near c.args.place (c.holds.ensures c.if-holds.true)

pub returns-then-holds-2-clause-run : goal.returns-then-holds-2-clause-run
returns-then-holds-2-clause-run c = held c.args.starts.now c.saturating_add-next.result c.args.place
    (c.holds-2.ensures c.if-holds-2.true)
