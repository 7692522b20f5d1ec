use Rattle.std.proofs.Common.{◌≡◌, ◌+◌, ◌++◌, take, map}
use Rattle.{def_layout.specs.declared.tmesh.SideArc.SideArc, def_report.specs.GraphText.numbers_text}

abbrev pub invariant-loop-used : Rattle.qm_report.proofs.parts.push_side.Given.invariant-loop-used
invariant-loop-used l = l.text.items ≡ l.fn.text.items ++ l.word ++ numbers_text
    (map (λ (used : SideArc). used.arc + 1) (take l.used-index l.arcs))
