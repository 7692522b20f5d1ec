use Rattle.std.proofs.lemmas.List.Elements.{Contains-append_left, Contains-push, Contains-push_cases}
use Rattle.std.proofs.Common.{[], ◌∷◌, arith}

pub returns : Rattle.qm_stitch.proofs.remedies.push_remedy.Goals.returns
returns c r =
    let old = c.args.found.now.items in
    let new = c.args.remedy in
    let on = c.is_repeat.ensures.0 c.if-not-is_repeat.false in
    rw c.in_ok-push.ensures.items
    (grind (arith, Contains-push_cases old new r, Contains-append_left old (new ∷ []) r, Contains-push old new, on))
