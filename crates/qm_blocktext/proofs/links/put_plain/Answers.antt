use Rattle.def_blocks.specs.BlockTexts.{link_line}
use Rattle.qm_output.proofs.Prefixes.{of_error, stops_at_item}
use Rattle.qm_blocktext.proofs.links.put_plain.Goals as goal

pub returns-in_err-put_line-clause-part : goal.returns-in_err-put_line-clause-part
returns-in_err-put_line-clause-part g c =
    let laws = g.met.T.Output in
    of_error c.from_residual.result (stops_at_item g.T.Output.takes g.T.Output.stops laws.stops_later laws.stops_before
    link_line c.args.links.now c.loop-link.link-index _ _ _ _ c.loop-link-test.true c.loop-link.invariant
    (rw c.link_of.ensures at c.in_err-put_line.ensures.part))
