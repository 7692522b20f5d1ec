use Rattle.std.proofs.Common.{rules, is_some, ap, ◌∙◌, arith}
use Rattle.qm_trace.proofs.Noting.{ends_back, marks_back, taken_back, back_short, dart_read, note_back, note_read}
use Rattle.{def_mesh.specs.Darts.to_of}
use Rattle.qm_trace.proofs.notes.clear_each.Goals as goal

pub index-requires : goal.index-requires
index-requires c =
    let back = note_back c.requires.queue c.loop-r-test.true c.loop-r.invariant.noted c.requires.notes in
    omega (arith, c.loop-r.noted.ok.0, back_short back)

pub unwrap-d-requires : goal.unwrap-d-requires
unwrap-d-requires c = ap is_some (note_read (note_back c.requires.queue c.loop-r-test.true c.loop-r.invariant.noted
    c.requires.notes) c.index.ensures)

pub index_mut-requires : goal.index_mut-requires
index_mut-requires c =
    let back = note_back c.requires.queue c.loop-r-test.true c.loop-r.invariant.noted c.requires.notes in
    omega (arith, c.loop-r.noted.ok.0, back_short back)

pub index_mut-requires-in-loop-r : goal.index_mut-requires-in-loop-r
index_mut-requires-in-loop-r c =
    let back = note_back c.requires.queue c.loop-r-test.true c.loop-r.invariant.noted c.requires.notes in
    omega (arith, dart_read back c.index.ensures c.unwrap-d.ensures)

pub to-requires : goal.to-requires
to-requires c =
    let back = note_back c.requires.queue c.loop-r-test.true c.loop-r.invariant.noted c.requires.notes in
    omega (arith, dart_read back c.index.ensures c.unwrap-d.ensures, back.note.2)

pub loop-r-preserved : goal.loop-r-preserved
loop-r-preserved c =
    let back = note_back c.requires.queue c.loop-r-test.true c.loop-r.invariant.noted c.requires.notes in
    let dart = dart_read back c.index.ensures c.unwrap-d.ensures in
    let marks = marks_back back c.loop-r.taken.items
    (omega (arith, c.loop-r.invariant.taken_long)) c.loop-r.invariant.taken in
    let ends = ends_back back c.loop-r.settled.items (c.to.ensures.value ∙ ap (to_of c.args.mesh.now) dart)
    (omega (arith, c.loop-r.invariant.settled_long)) c.loop-r.invariant.settled in
    search (rules, taken_back back, ends)
