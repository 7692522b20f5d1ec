use Rattle.std.proofs.Common.{arith, rules, ◌≡◌, ◌+◌, ℕ, true, take, Some, is_some, ap, ◌∙◌}
use Rattle.std.proofs.{lemmas.List.take_all}
use Rattle.def_cut.specs.{Events.darts_in, Events.leads_to, Events.note_at, FullCut.is_on}
use Rattle.def_cut.specs.{Motion.is_among, Traced.terrain_of}
use Rattle.motion_laws.proofs.{Among.any_at, Marks.among_at, Marks.noted_among, Marks.noted_short}
use Rattle.{def_mesh.specs.Darts.to_of, qm_trace.proofs.Tellings.among_more}
use Rattle.qm_trace.proofs.events.first_open.Goals as goal

pub bounds-noted-r : goal.bounds-noted-r
bounds-noted-r c = grind (arith, noted_short, among_at c.args.queue.now c.queue.r-index c.queue-test.true)

pub unwrap-d-requires : goal.unwrap-d-requires
unwrap-d-requires c = ap is_some (c.requires.notes _ (among_at c.args.queue.now c.queue.r-index c.queue-test.true)).1

pub to-vertex-requires : goal.to-vertex-requires
to-vertex-requires c = search (rules, c.requires.notes _ (among_at c.args.queue.now c.queue.r-index c.queue-test.true))

pub returns-then-not-settled-vertex-clause-end : goal.returns-then-not-settled-vertex-clause-end
returns-then-not-settled-vertex-clause-end c = any_at (leads_to (terrain_of c.args.mesh.now) c.to-vertex.result)
    c.unwrap-d.result (darts_in c.args.noted.now) (search (rules, noted_among)) (search rules)

-- The notes of the riders up to this one end at settled vertices.
up_to : (c : goal.Else-not-settled-vertex) (r d : ℕ) → is_among r (take (c.queue.r-index + 1) c.args.queue.now) ≡ true
    → note_at c.args.noted.now r ≡ Some d → is_on c.args.settled.now (to_of c.args.mesh.now d) ≡ true
up_to c r d among note = search (rules, among_more c.args.queue.now c.queue.r-index r c.queue-test.true)

pub queue-preserved : goal.queue-preserved
queue-preserved c = record { none = up_to c }

pub returns-clause-none : goal.returns-clause-none
returns-clause-none c r d among note = c.queue.invariant.none r d
    (ap (is_among r) (take_all c.queue.r-index c.args.queue.now c.queue-test.false) ∙ among) note
