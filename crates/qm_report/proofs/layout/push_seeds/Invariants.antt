use Rattle.std.proofs.Common.{◌≡◌, ◌++◌, take}
use Rattle.{def_report.specs.GraphText.seed_line, std.specs.List.flat_map, def_cuttext.specs.LayoutText.place_in_file}

abbrev pub invariant-loop-seed : Rattle.qm_report.proofs.layout.push_seeds.Given.invariant-loop-seed
invariant-loop-seed l = l.text.items ≡ l.fn.text.items
    ++ flat_map (λ v. seed_line (place_in_file l.cut.soup.names v)) (take l.seed-index l.seeds)
