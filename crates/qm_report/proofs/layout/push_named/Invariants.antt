use Rattle.std.specs.List.{flat_map, range_with_len}
use Rattle.{std.proofs.Common.◌≡◌, std.proofs.Common.◌++◌, def_cuttext.specs.LayoutText.named_line}

abbrev pub invariant-loop-v : Rattle.qm_report.proofs.layout.push_named.Given.invariant-loop-v
invariant-loop-v l = l.text.items ≡ l.fn.text.items ++ flat_map (named_line l.cut.soup) (range_with_len 0 l.v)
