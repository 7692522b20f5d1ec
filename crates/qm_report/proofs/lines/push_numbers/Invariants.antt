use Rattle.std.proofs.Common.{◌≡◌, ◌++◌, take}
use Rattle.def_report.specs.GraphText.{numbers_text}

abbrev pub invariant-loop-number : Rattle.qm_report.proofs.lines.push_numbers.Given.invariant-loop-number
invariant-loop-number l = l.text.items ≡ l.fn.text.items ++ numbers_text (take l.number-index l.numbers)
