use Rattle.std.proofs.Common.{◌≡◌, ◌-◌, map, take}

abbrev pub invariant-loop-cap : Rattle.qm_gadget.proofs.states.downs_of.Given.invariant-loop-cap
invariant-loop-cap l = l.downs.items ≡ map (λ cap. cap - 2) (take l.cap-index l.caps)
