use Rattle.std.proofs.Common.{◌≡◌, ◌+◌, ◌++◌, map, take}
use Rattle.def_cuttext.specs.LayoutText.{place_in_file}
use Rattle.{def_report.specs.GraphText.numbers_text, def_mesh.specs.Darts.from_of}

abbrev pub invariant-loop-dart : Rattle.qm_report.proofs.layout.push_along.Given.invariant-loop-dart
invariant-loop-dart l = l.text.items ≡ l.fn.text.items
    ++ numbers_text (map (λ d. place_in_file l.cut.soup.names (from_of l.cut.soup.faces d) + 1)
    (take l.dart-index l.along))
