use Rattle.std.proofs.Common.{◌≡◌, true, take}
use Rattle.{std.specs.List.list_all, def_text.specs.Laws.is_position}

abbrev pub invariant-loop-position : Rattle.qm_stages.proofs.meshed.are_near.Given.invariant-loop-position
invariant-loop-position l = list_all is_position (take l.position-index l.positions) ≡ true
