use Rattle.qm_sing.specs.Floods.{IsSpread}

-- The sides before this one have been looked at.
abbrev pub invariant-loop-i : Rattle.qm_sing.proofs.flooding.spread.Given.invariant-loop-i
invariant-loop-i l = IsSpread l.mesh l.f l.component l.i l.initial.numbers l.numbers l.initial.waiting.items
    l.waiting.items
