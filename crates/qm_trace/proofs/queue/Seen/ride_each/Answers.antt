use Rattle.std.proofs.Common.{rules}
use Rattle.{std.proofs.Common.arith, motion_laws.proofs.Marks.among_at, qm_trace.proofs.Tellings.unmoved}
use Rattle.qm_trace.proofs.queue.Seen.ride_each.Goals as goal

pub slice_copy_out-rider : goal.slice_copy_out-rider
slice_copy_out-rider c =
    let m = among_at _ _ c.loop-r-test.true in omega (arith, c.requires.low _ m, c.loop-r.auto.riders)

pub ride_one-requires : goal.ride_one-requires
ride_one-requires c =
    let s = c.args.self.now in
    let m = among_at c.args.queue.now c.loop-r.r-index c.loop-r-test.true in
    rw (unmoved s.mesh.now s.sight.now.stood.items s.sight.now.taken.items _ _ _ _ c.requires.apart c.loop-r-test.true
    (c.requires.low _ m) c.loop-r.invariant) (search rules)

pub bounds-riders-r : goal.bounds-riders-r
bounds-riders-r c = let m = among_at _ _ c.loop-r-test.true in omega (arith, c.requires.low _ m, c.loop-r.auto.riders)
