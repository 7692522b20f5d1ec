use Rattle.std.proofs.Common.{arith}
use Rattle.qm_sing.proofs.Floods.{flood_none, flood_more, flood_over, taken_low}
use Rattle.qm_sing.proofs.flooding.flood.Goals as goal

pub loop-f-init : goal.loop-f-init
loop-f-init c = flood_none c.args.waiting.now.items c.requires.face.0 c.requires.face.1 c.requires.long
    c.requires.empty c.in_ok-push.ensures.items

pub spread-requires-clause-face : goal.spread-requires-clause-face
spread-requires-clause-face c = (taken_low _ _ c.in-Some.ensures.items c.loop-f.invariant).0

pub spread-requires-clause-low : goal.spread-requires-clause-low
spread-requires-clause-low c = (taken_low _ _ c.in-Some.ensures.items c.loop-f.invariant).1

pub loop-f-preserved : goal.loop-f-preserved
loop-f-preserved c = flood_more _ _ c.in-Some.ensures.items c.loop-f.invariant c.faces-known.ensures.mesh.manifold
    c.requires.face.0 c.requires.number c.in_ok-spread.ensures

pub returns-clause-flooded : goal.returns-clause-flooded
returns-clause-flooded c = flood_over c.requires.face.0 c.requires.face.1 c.requires.number c.requires.closed
    (omega (arith, c.in_default.ensures.cases.0, c.loop-f.waiting.ok.0)) c.loop-f.invariant
