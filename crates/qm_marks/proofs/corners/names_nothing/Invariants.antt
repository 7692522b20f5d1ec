use Rattle.std.proofs.Common.{false, take, ◌≡◌}
use Rattle.{std.specs.List.list_any, def_marks.specs.Lines.is_nothing}

abbrev pub invariant-loop-index : Rattle.qm_marks.proofs.corners.names_nothing.Given.invariant-loop-index
invariant-loop-index l = list_any is_nothing (take l.index-index l.indices) ≡ false
