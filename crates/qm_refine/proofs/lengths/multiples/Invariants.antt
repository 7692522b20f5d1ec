use Rattle.std.proofs.Common.{◌≡◌, ◌*◌, length, map, take}
use Rattle.def_layout.specs.declared.tmesh.TArc.{TArc}

abbrev pub invariant-loop-arc : Rattle.qm_refine.proofs.lengths.multiples.Given.invariant-loop-arc
invariant-loop-arc l = l.lengths.items ≡ map (λ (arc : TArc). l.by * length arc.darts.items)
    (take l.arc-index l.arc-items)
