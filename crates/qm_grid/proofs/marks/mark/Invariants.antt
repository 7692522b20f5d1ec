use Rattle.std.proofs.Common.{◌≡◌, ℕ, ◌<◌, ◌||◌, false, length, get_or, take}
use Rattle.qm_grid.specs.Heads.{lies_in}

-- the faces of the cells so far are marked
abbrev pub invariant-loop-c : Rattle.qm_grid.proofs.marks.mark.Given.invariant-loop-c
invariant-loop-c l = (f : ℕ) → f < length l.seen → get_or l.seen f false
    ≡ (get_or l.initial.seen f false || lies_in (take l.c-index l.cells) f)
