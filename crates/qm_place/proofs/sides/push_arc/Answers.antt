use Rattle.std.proofs.Common.{◌≡◌, ◌-◌, cond, not, arith}
use Rattle.{qm_place.proofs.Pushes.pushed_more, def_remesh.specs.NewPoints.lengths_in}

pub loop-offset-preserved : Rattle.qm_place.proofs.sides.push_arc.Goals.loop-offset-preserved
loop-offset-preserved c =
    let new = lengths_in c.args.places.now.lengths.now c.args.used.arc in
    let forward : c.if-back.forward ≡ cond c.args.back (not c.args.used.forward) c.args.used.forward =
    grind (arith, c.if-back.branch) in
    let place : c.if-back-2.k ≡ cond c.args.back (new - c.loop-offset.offset) c.loop-offset.offset =
    grind (arith, c.if-back-2.branch) in
    pushed_more c.loop-offset.invariant c.in_ok-push.ensures.items (rw (c.parameter_of.ensures.value, forward, place))
