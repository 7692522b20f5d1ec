use Rattle.qm_layoutnet.specs.Floors.{AreFloored}

abbrev pub invariant-loop-arc : Rattle.qm_layoutnet.proofs.floor.put_floor.Given.invariant-loop-arc
invariant-loop-arc l = AreFloored l.arc-index l.floor l.initial.arcs l.arcs
