use Rattle.{def_io.specs.Lines.lines_of, qm_marks.proofs.AllWishes.IsAtWish, std.proofs.Common.take}

abbrev pub invariant-loop-i : Rattle.qm_marks.proofs.wishes.read_wishes.Given.invariant-loop-i
invariant-loop-i l = IsAtWish l.soup (take l.fn.after (lines_of l.lines)) l.places.all l.i l.wishes.items
