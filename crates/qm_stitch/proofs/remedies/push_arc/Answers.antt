use Rattle.std.proofs.{Common.◌∙◌, Common.arith, Common.rules, Common.w64}
use mir.Syntax.{w128}
use Rattle.qm_stitch.proofs.{Grids.counts, Lines.arc_both, TightEdges.end_is}
use Rattle.qm_stitch.proofs.DoubledPairs.{told_next, told_none, told_so}
use Rattle.{std.proofs.lemmas.Int.to_z-of_z}
use Rattle.qm_stitch.proofs.remedies.push_arc.Goals as goal

pub returns-then-not-is_short_arc : goal.returns-then-not-is_short_arc
returns-then-not-is_short_arc c r = told_none (search rules)

pub loop-k-init : goal.loop-k-init
loop-k-init c r = told_none (λ is. omega arith)

pub loop-k-preserved : goal.loop-k-preserved
loop-k-preserved c r =
    let cost = to_z-of_z w128 _ (search rules) ∙ c.from.ensures
    ∙ to_z-of_z w64 _ (search rules) ∙ c.short_price.ensures in
    told_next _ (c.loop-k.invariant r) (rw (c.arc_key.ensures, cost) at (c.in_ok-push_remedy.ensures r))

pub returns : goal.returns
returns c r =
    let long = end_is c.args.priced.now.keyed.numbered c.requires.arc c.index-k-end.ensures in
    told_so (c.loop-k.invariant r) (arc_both c.args.priced.now c.args.arc c.loop-k.k (omega counts)
    (c.is_short_arc.ensures.0 c.if-not-is_short_arc.false) (omega (arith, long)) r)
