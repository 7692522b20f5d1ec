use Rattle.std.proofs.lemmas.List.{length-replicate}
use Rattle.qm_trace.proofs.Counting.{none_untold}
use Rattle.qm_trace.proofs.Counting.{tally_runs}
use Rattle.std.proofs.Common.{rules, true, false, ap, refl}
use Rattle.std.proofs.{lemmas.Bool.eq-eqb, lemmas.Bool.ne_eqb, lemmas.List.length-set}
use Rattle.def_cut.specs.{Events.Event.Settle}
use Rattle.qm_trace.proofs.Fewer.{settling, settles, event_on, made, waits_again}
use Rattle.qm_trace.proofs.Noting.{can_tell, ends_now, noted_low_at, settle_low, settled_state, still_wait}
use Rattle.qm_trace.proofs.motion.Motion.settle.Goals as goal

pub tell_all-requires : goal.tell_all-requires
tell_all-requires c =
    let at = settling c.faces-known.ensures.mesh.manifold c.self.view_is c.requires.motion c.requires.possible
    c.self.invariant refl c.index.ensures c.site_at-site.ensures in
    search (rules, settle_low at.k, can_tell at c.self.inside.riders)

pub clear-requires : goal.clear-requires
clear-requires c =
    let k = settles c.faces-known.ensures.mesh.manifold c.self.view_is c.requires.motion c.args.v c.requires.possible in
    search (rules, noted_low_at k.now, length-set, ends_now k)

pub invariant_of-self : goal.invariant_of-self
invariant_of-self c = search (rules, length-replicate, tally_runs, none_untold, waits_again)

pub invariant_of-self-else-self-eq0 : goal.invariant_of-self-else-self-eq0
invariant_of-self-else-self-eq0 c =
    let at = settling c.faces-known.ensures.mesh.manifold c.self.view_is c.requires.motion c.requires.possible
    c.self.invariant refl c.index.ensures c.site_at-site.ensures in
    search (rules, still_wait at c.tell_all.ensures.counted c.tell_all.ensures.told)

pub returns-then-self-eq0-clause-event : goal.returns-then-self-eq0-clause-event
returns-then-self-eq0-clause-event c =
    let at = settling c.faces-known.ensures.mesh.manifold c.self.view_is c.requires.motion c.requires.possible
    c.self.invariant refl c.index.ensures c.site_at-site.ensures in
    rw (← c.self.view_is) (ap (made c.self.inside.starts.items) (settled_state at c.tell_all.ensures.counted
    c.tell_all.ensures.told true (eq-eqb _ 0 c.if-self-eq0.true) c.clear.ensures.noted c.clear.ensures.settled))

pub returns-then-self-eq0-clause-motion : goal.returns-then-self-eq0-clause-motion
returns-then-self-eq0-clause-motion c = event_on c.faces-known.ensures.mesh.manifold c.requires.motion
    (Settle c.args.v) c.requires.possible (returns-then-self-eq0-clause-event c)

pub returns-else-self-eq0-clause-event : goal.returns-else-self-eq0-clause-event
returns-else-self-eq0-clause-event c =
    let at = settling c.faces-known.ensures.mesh.manifold c.self.view_is c.requires.motion c.requires.possible
    c.self.invariant refl c.index.ensures c.site_at-site.ensures in
    rw (← c.self.view_is) (ap (made c.self.inside.starts.items) (settled_state at c.tell_all.ensures.counted
    c.tell_all.ensures.told false (ne_eqb _ 0 c.if-self-eq0.false) refl refl))

pub returns-else-self-eq0-clause-motion : goal.returns-else-self-eq0-clause-motion
returns-else-self-eq0-clause-motion c = event_on c.faces-known.ensures.mesh.manifold c.requires.motion
    (Settle c.args.v) c.requires.possible (returns-else-self-eq0-clause-event c)
