use Rattle.std.proofs.Common.{◌≡◌, ◌+◌, suc, Some, ℕ, take, drop, sym, ap, ◌∙◌, subst, arith}
use Rattle.{std.specs.Prelude.slice_get, def_cuttext.specs.GridsText.arc_link_lines, qm_blocktext.specs.Gridded.arcs_of}
use Rattle.qm_output.proofs.Prefixes.{of_error}
use Rattle.qm_blocktext.proofs.Rounds.{lines_all, lines_at}
use Rattle.qm_blocktext.proofs.links.put_along.Goals as goal

pub returns-in_default-clause-whole : goal.returns-in_default-clause-whole
returns-in_default-clause-whole g c =
    subst (g.T.Output.takes c.args.out.now c.loop-at.out) (lines_all c.args.links.now (arcs_of c.args.sides.now)
    c.loop-at.at (sym c.arc_at.ensures ∙ c.in_default.is)) c.loop-at.invariant

pub returns-in_err-put_line-clause-part : goal.returns-in_err-put_line-clause-part
returns-in_err-put_line-clause-part g c =
    let laws = g.met.T.Output in
    let links = c.args.links.now in
    let arcs = arcs_of c.args.sides.now in
    let at = c.loop-at.at in
    let has : slice_get arcs at ≡ Some c.in-Some.arc = sym c.arc_at.ensures ∙ c.in-Some.is in
    of_error c.from_residual.result (subst (g.T.Output.stops c.args.out.now c.put_line.new.out)
    (lines_at links arcs at _ c.in-Some.arc c.loop-at-test.true has).0
    (laws.stops_later _ _ _ (arc_link_lines (take at links) arcs) _ c.loop-at.invariant
    (laws.stops_before _ _ _ (arc_link_lines (drop (suc at) links) (drop (suc at) arcs))
    (rw c.arc_link_of.ensures at c.in_err-put_line.ensures.part))))

pub loop-at-preserved : goal.loop-at-preserved
loop-at-preserved g c =
    let laws = g.met.T.Output in
    let links = c.args.links.now in
    let arcs = arcs_of c.args.sides.now in
    let at = c.loop-at.at in
    let has : slice_get arcs at ≡ Some c.in-Some.arc = sym c.arc_at.ensures ∙ c.in-Some.is in
    let next : at + 1 ≡ suc at = omega arith in
    subst (g.T.Output.takes c.args.out.now c.put_line.new.out)
    (sym (ap (λ (n : ℕ). arc_link_lines (take n links) arcs) next ∙ (lines_at links arcs at _ c.in-Some.arc
    c.loop-at-test.true has).1)) (laws.takes_more _ _ _ (arc_link_lines (take at links) arcs) _ c.loop-at.invariant
    (rw c.arc_link_of.ensures at c.in_ok-put_line.ensures.whole))
