use Rattle.{qm_obj.specs.Kept.first_late, std.proofs.Common.drop, std.proofs.Common.◌≡◌}

abbrev pub invariant-loop-i : Rattle.qm_obj.proofs.used.late_line.Given.invariant-loop-i
invariant-loop-i l = first_late l.vertices (drop l.i l.faces) (drop l.i l.lines) ≡ first_late l.vertices l.faces l.lines
