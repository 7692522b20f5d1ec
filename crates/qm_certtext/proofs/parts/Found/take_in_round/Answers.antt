use Rattle.qm_certtext.proofs.Chosen.{no_rise_line, takes_plain, added_ok}
use Rattle.{std.proofs.Common.refl, qm_certtext.specs.declared.parts.Found.Found}

pub returns : Rattle.qm_certtext.proofs.parts.Found.take_in_round.Goals.returns
returns c =
    let ended = c.end_round.new.self in
    let new : Found = record ended { last = c.take.new.self } in
    let e = c.take.ensures in
    added_ok _ _ _ _ e.lengths e.vertices e.vertex_ups e.sets e.set_ups (λ adds. takes_plain _ _ new _
    (no_rise_line c.args.line c.in_default.not-Rise) c.in_ok-end_round.ensures refl refl adds)
