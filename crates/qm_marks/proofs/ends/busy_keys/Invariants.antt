use Rattle.qm_marks.specs.{Keys.dart_key, Keys.is_busy, declared.ends.TheConstants.FEW}
use Rattle.{std.proofs.Common.map, std.proofs.Common.◌≡◌, std.specs.List.range_with_len, std.specs.Prelude.filter}

abbrev pub invariant-loop-d : Rattle.qm_marks.proofs.ends.busy_keys.Given.invariant-loop-d
invariant-loop-d l = l.keys.items ≡ map (dart_key l.mesh) (filter (is_busy l.mesh FEW) (range_with_len 0 l.d))
