use Rattle.std.proofs.Common.{◌≡◌, ◌++◌, take}
use Rattle.{def_report.specs.GraphText.seed_line, std.specs.List.flat_map}

abbrev pub invariant-loop-seed : Rattle.qm_report.proofs.graph.push_seeds.Given.invariant-loop-seed
invariant-loop-seed l = l.text.items ≡ l.fn.text.items ++ flat_map seed_line (take l.seed-index l.seeds)
