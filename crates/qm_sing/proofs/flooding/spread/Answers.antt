use Rattle.std.proofs.Common.{arith}
use Rattle.qm_sing.proofs.Floods.{spread_more}

pub loop-i-preserved : Rattle.qm_sing.proofs.flooding.spread.Goals.loop-i-preserved
loop-i-preserved c = grind (arith, spread_more c.requires.number c.loop-i-test.true c.requires.face c.loop-i.invariant)
