use Rattle.motion_laws.proofs.Order.{noted_low}
use Rattle.std.proofs.lemmas.Grind.{common_steps}
use Rattle.std.proofs.Common.{rules, length, sym, ap, ◌∙◌, refl, arith}
use Rattle.qm_trace.proofs.Fewer.{rode_counted, rode_waits, rides, as_read, event_on}
use Rattle.qm_trace.proofs.Reaching.{ride_alone, ride_dart, ride_few, ride_fresh}
use Rattle.{std.proofs.lemmas.List.length-set, std.proofs.lemmas.List.with_items_is, def_cut.specs.Events.Event.Ride}
use Rattle.{qm_trace.proofs.Ends.starts_few, qm_trace.proofs.Counting.tally_few}
use Rattle.qm_trace.proofs.motion.Motion.ride.Goals as goal

pub overflow_add-rider : goal.overflow_add-rider
overflow_add-rider c = search (rules, rides, as_read, ride_few)

pub overflow_add-self : goal.overflow_add-self
overflow_add-self c = search (rules, tally_few, starts_few)

pub overflow_sub-self : goal.overflow_sub-self
overflow_sub-self c =
    let k = rides c.vertices-vertices.ensures.mesh.manifold c.self.view_is c.requires.motion c.args.r
    c.requires.rider c.requires.possible in
    omega (arith, c.self.invariant.waits_is, rode_waits k (as_read k c.index-rider.ensures) refl)

pub cover_edge-requires : goal.cover_edge-requires
cover_edge-requires c = search (rules, rides, as_read, ride_dart)

pub note-requires : goal.note-requires
note-requires c =
    let k = rides c.vertices-vertices.ensures.mesh.manifold c.self.view_is c.requires.motion c.args.r
    c.requires.rider c.requires.possible in
    search (rules, as_read, ride_dart, ride_fresh, ride_alone, noted_low)

pub invariant_of-self : goal.invariant_of-self
invariant_of-self c =
    let k = rides c.vertices-vertices.ensures.mesh.manifold c.self.view_is c.requires.motion _
    c.requires.rider c.requires.possible in
    let same = as_read k c.index-rider.ensures in
    let covered = with_items_is c.self.inside.covered _ (c.cover_edge.auto.covered ∙ c.deref_mut.ensures.len) in
    record {
      notes_are = c.note.ensures.notes;
      taken_long = omega (arith, ap length covered, ap length c.deref_mut.ensures.value);
      counted = rode_counted k same c.note.ensures.noted c.self.invariant.counted refl refl refl refl;
      waits_is = omega (arith, rode_waits k same c.note.ensures.noted, c.self.invariant.waits_is);
      starts_long = c.self.invariant.starts_long ∙ sym (length-set c.self.inside.riders.list.items c.args.r _);
      untold_yet = c.self.invariant.untold_yet;
      has_room = c.self.invariant.has_room;
    }

pub returns-clause-event : goal.returns-clause-event
returns-clause-event c = grind (arith, common_steps)

pub returns-clause-motion : goal.returns-clause-motion
returns-clause-motion c =
    let k = rides c.vertices-vertices.ensures.mesh.manifold refl c.requires.motion c.args.r c.requires.rider
    c.requires.possible in
    event_on c.vertices-vertices.ensures.mesh.manifold c.requires.motion (Ride c.args.r) (k.low, k.may)
    (returns-clause-event c)
