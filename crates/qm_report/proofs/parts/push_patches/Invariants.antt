use Rattle.{std.proofs.Common.◌≡◌, std.proofs.Common.◌++◌, std.specs.List.flat_map, std.specs.List.range_with_len}
use Rattle.{def_layout.specs.Layouts.layout_of, def_report.specs.GraphText.patch_lines}

abbrev pub invariant-loop-p : Rattle.qm_report.proofs.parts.push_patches.Given.invariant-loop-p
invariant-loop-p l = l.text.items ≡ l.fn.text.items ++ flat_map (patch_lines (layout_of l.t)) (range_with_len 0 l.p)
