use Rattle.std.proofs.{Common.List, Common.ℤ, Common.pos, Common.get_or, Common.ap, Common.arith, lemmas.Int.ints}
use Rattle.qm_forest.proofs.TiedWrites.{base_small}

pub returns-clause-bound : Rattle.qm_forest.proofs.forest.Forest.base_at.Goals.returns-clause-bound
returns-clause-bound c =
    let read = ap (λ (xs : List ℤ). get_or xs c.args.b (pos 0)) c.deref.ensures.value in
    omega (arith, ints, c.read.ensures, base_small c.self.invariant c.args.b)
