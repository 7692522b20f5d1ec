use Rattle.std.proofs.Common.{◌≡◌, map}
use Rattle.{std.specs.List.range_with_len, def_feature.specs.Marks.is_break}

abbrev pub invariant-loop-v : Rattle.qm_feature.proofs.breaking.breaks.Given.invariant-loop-v
invariant-loop-v l = l.found.items ≡ map (is_break l.mesh l.marks) (range_with_len 0 l.v)
