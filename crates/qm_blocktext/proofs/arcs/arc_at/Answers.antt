use Rattle.std.proofs.Common.{◌≡◌, ◌+◌, ◌-◌, ◌≤◌, suc, length, drop, sym, ◌∙◌, arith}
use Rattle.{std.specs.Prelude.slice_get, qm_blocktext.proofs.Rounds.arc_behind, qm_blocktext.specs.Gridded.arcs_of}

pub loop-side-preserved : Rattle.qm_blocktext.proofs.arcs.arc_at.Goals.loop-side-preserved
loop-side-preserved c =
    let side = c.side-item.result in
    let i = c.loop-side.side-index in
    let sides = c.args.sides.now in
    let left = c.loop-side.left in
    let past : length side.arcs.items ≤ left = omega (arith, c.if-left-len.false, c.len.ensures, side.arcs.ok.0) in
    let next : i + 1 ≡ suc i = omega arith in
    let many : c.len-left.result ≡ length side.arcs.items = omega (arith, c.len-left.ensures, side.arcs.ok.0) in
    (λ k. slice_get (arcs_of (drop (next k) sides)) (left - many k))
    ∙ sym (arc_behind sides i left side c.loop-side-test.true c.side-item.is past) ∙ c.loop-side.invariant
