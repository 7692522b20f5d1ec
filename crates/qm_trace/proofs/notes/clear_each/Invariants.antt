use Rattle.std.proofs.Common.{◌≡◌, ℕ, true, cond, length, take, Some, None}
use Rattle.def_mesh.specs.Darts.{to_of}
use Rattle.def_cut.specs.{FullCut.is_on, Motion.is_among, Events.note_at}

-- What is marked still belongs to a note, and the riders before this one have none.
abbrev pub invariant-loop-r : Rattle.qm_trace.proofs.notes.clear_each.Given.invariant-loop-r
invariant-loop-r l = record {
  long : length l.noted.items ≡ length l.initial.noted.items;
  taken_long : length l.taken.items ≡ length l.initial.taken.items;
  settled_long : length l.settled.items ≡ length l.initial.settled.items;
  noted : (r : ℕ) → note_at l.noted.items r ≡ cond (is_among r (take l.r-index l.queue)) None
      (note_at l.initial.noted.items r);
  taken : (d : ℕ) → is_on l.taken.items d ≡ true → (r : ℕ) × (note_at l.noted.items r ≡ Some d);
  settled : (v : ℕ) → is_on l.settled.items v ≡ true → (r : ℕ) × (d : ℕ) × (note_at l.noted.items r ≡ Some d)
      × (to_of l.mesh d ≡ v);
}
