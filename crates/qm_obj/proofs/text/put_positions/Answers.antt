use Rattle.{std.proofs.Common.rules, def_text.specs.Canonical.position_text, qm_output.proofs.Prefixes.of_error}
use Rattle.qm_output.proofs.Prefixes.{stops_at_item}
use Rattle.qm_obj.proofs.text.put_positions.Goals as goal

pub returns-in_err-put_position-clause-part : goal.returns-in_err-put_position-clause-part
returns-in_err-put_position-clause-part g c =
    let laws = g.met.T.Output in
    of_error _ (stops_at_item _ _ laws.stops_later laws.stops_before position_text _ _ c.position-item.result _ _ _
    c.loop-position-test.true c.loop-position.invariant (search rules))
