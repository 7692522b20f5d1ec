use Rattle.std.proofs.lemmas.Grind.{common_steps}
use Rattle.std.proofs.{Common.length, Common.Ok, Common.ap, Common.arith, lemmas.Int.ints}
use Rattle.qm_sing.proofs.Floods.{used_is}

pub returns : Rattle.qm_sing.proofs.classes.euler.Goals.returns
returns c = grind (arith, common_steps, used_is c.args.mesh.now c.faces.ensures.mesh)
