use Rattle.qm_trace.proofs.Counting.{tally_none}
use Rattle.qm_trace.proofs.Counting.{waiting_is}
use Rattle.std.proofs.Common.{arith, rules, ◌≡◌, ℕ, true, length, refl, sym, ap, ◌∙◌}
use Rattle.def_cut.specs.{Events.darts_in, FullCut.is_on, Motion.is_among}
use Rattle.qm_trace.proofs.Fewer.{reached_now, over_where, settle_not_over}
use Rattle.qm_trace.proofs.{Reaching.reached_by, Ends.starts_few, Noting.noted_low_at}
use Rattle.{def_mesh.specs.Darts.to_of, motion_laws.proofs.Marks.noted_among, motion_laws.proofs.Marks.noted_where}
use Rattle.qm_trace.proofs.motion.Motion.possible.Goals as goal

pub first_waiting-requires-clause-few : goal.first_waiting-requires-clause-few
first_waiting-requires-clause-few c = search (rules, starts_few)

pub first_open-requires : goal.first_open-requires
first_open-requires c =
    let now = reached_now c.faces-known.ensures.mesh.manifold c.self.view_is c.requires in
    record {
      notes = λ r among.
          let note = c.self.invariant.notes_are.queue_is r (sym (ap (is_among r) c.deref-3.ensures.value) ∙ among) in
          grind (arith, noted_low_at now note.0 (noted_among c.self.inside.notes.noted.items r note.0 note.1));
      long = ap length c.deref-5.ensures.value ∙ now.shown.settled_long;
    }

pub returns-in_err-vertex-clause-over : goal.returns-in_err-vertex-clause-over
returns-in_err-vertex-clause-over c =
    let now = reached_now c.faces-known.ensures.mesh.manifold c.self.view_is c.requires in
    let none = rw (c.deref.ensures.value, c.deref-2.ensures.value) at c.in_default.ensures.none in
    let settled : (d : ℕ) → is_among d (darts_in c.self.inside.notes.noted.items) ≡ true
    → is_on c.self.inside.settled.items (to_of c.args.mesh.now d) ≡ true = λ d among.
    let r = noted_where c.self.inside.notes.noted.items d among in
    search (rules, c.in_err-vertex.ensures.none r.0 d, c.self.invariant.notes_are.queue_has r.0 d r.2) in
    (λ _. rw (← c.self.view_is) (over_where now none settled), λ _. c.from_residual.ensures)

pub returns-clause-settles : goal.returns-clause-settles
returns-clause-settles c v is = search (rules, waiting_is, tally_none)

pub returns-clause-over : goal.returns-clause-over
returns-clause-over c =
    let may = returns-clause-settles c c.in_ok-vertex.vertex refl in
    let now = reached_by c.faces-known.ensures.mesh.manifold _ c.requires.reached in search (rules, settle_not_over)
