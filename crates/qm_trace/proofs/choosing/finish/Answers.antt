use Rattle.std.proofs.Common.{rules, Some, ap, refl}
use Rattle.qm_trace.proofs.Fewer.{rides, settles, ride_less, settle_less}
use Rattle.qm_trace.proofs.choosing.finish.Goals as goal

pub events-smaller-in-Ride : goal.events-smaller-in-Ride
events-smaller-in-Ride c =
    let on = c.events.invariant.motion in
    let rider = c.in-Some.ensures.rider c.in-Ride.rider (ap Some c.in-Ride.is) in
    let may = c.in-Some.ensures.rides c.in-Ride.rider (ap Some c.in-Ride.is) in
    rw c.ride.ensures.event (ride_less (rides c.faces-known.ensures.mesh.manifold refl on c.in-Ride.rider rider may))

pub events-smaller : goal.events-smaller
events-smaller c =
    let may = c.in-Some.ensures.settles c.in-Settle.vertex (ap Some c.in-Settle.is) in
    rw c.settle.ensures.event (search (rules, settle_less, settles))
