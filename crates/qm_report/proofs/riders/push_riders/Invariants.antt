use Rattle.std.proofs.Common.{◌≡◌, ◌++◌, take}
use Rattle.{std.specs.List.flat_map, def_report.specs.GraphText.rider_line}

abbrev pub invariant-loop-rider : Rattle.qm_report.proofs.riders.push_riders.Given.invariant-loop-rider
invariant-loop-rider l = l.text.items ≡ l.fn.text.items ++ flat_map (rider_line l.mesh) (take l.rider-index l.riders)
