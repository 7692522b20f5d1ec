use Rattle.std.proofs.Common.{◌≡◌, ℕ, ◌<◌, cond, length, get_or, take}
use Rattle.qm_grid.specs.Heads.{lies_in}

-- the faces of the cells so far have the head
abbrev pub invariant-loop-c : Rattle.qm_grid.proofs.marks.set_heads.Given.invariant-loop-c
invariant-loop-c l = (f : ℕ) → f < length l.heads → get_or l.heads f 0 ≡ cond (lies_in (take l.c-index l.cells) f)
    l.head (get_or l.initial.heads f 0)
