use Rattle.std.proofs.Common.{◌≡◌, ◌*◌, length, map, take}
use Rattle.def_layout.specs.declared.tmesh.TArc.{TArc}

abbrev pub invariant-loop-run : Rattle.qm_metric.proofs.start.times_long.Given.invariant-loop-run
invariant-loop-run l = l.lengths.items ≡ map (λ (run : TArc). l.times * length run.darts.items)
    (take l.run-index l.runs)
