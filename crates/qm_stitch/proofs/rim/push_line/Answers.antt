use Rattle.std.proofs.lemmas.Grind.{common_steps}
use Rattle.std.proofs.{Common.rules, Common.arith}
use Rattle.qm_stitch.specs.{Rims.along_lines}
use Rattle.{written_laws.proofs.Sides.size_some}
use Rattle.qm_stitch.proofs.rim.push_line.Goals as goal

pub key_at-requires-clause-low : goal.key_at-requires-clause-low
key_at-requires-clause-low c = search (rules, size_some)

pub returns-in_ok-push-2 : goal.returns-in_ok-push-2
returns-in_ok-push-2 c =
    grind (arith, common_steps, c.size_at-long.ensures (along_lines c.args.line.upright) c.side_along.ensures.side)
