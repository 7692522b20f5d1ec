use Rattle.std.proofs.Common.{rules, inr, refl, ◌∙◌}
use Rattle.{def_layoutnet.specs.Floors.HasFloors, def_flow.specs.Network.network, def_flow.specs.Admissible.entries}
use Rattle.{error_laws.proofs.Errors.handed, def_certtext.specs.CertLines.lists_of, def_certtext.specs.CertLines.raised}
use Rattle.qm_layoutnet.proofs.Floors.{has_floors, floors_deviation}
use Rattle.def_remesh.specs.{Keeping.IsNetFor, Keeping.IsNetWith, Tasks.Wish}
use Rattle.qm_check.proofs.{Kept.unused_by, Kept.wrong_of, certificates.check_third.Goals.After-with_floor-higher}
use Rattle.remesh_laws.proofs.Keeps.{third_net, keeps, solved}
use Rattle.qm_check.proofs.certificates.check_third.Goals as goal

-- The network with floor 3.
has : (c : After-with_floor-higher) → HasFloors (network c.args.net) (λ a. 3) (network c.with_floor-higher.result)
has c = has_floors (network c.args.net) 3 (network c.with_floor-higher.result) c.with_floor-higher.ensures

higher : (c : After-with_floor-higher) {wish : Wish}
    → IsNetFor wish c.args.cut.now.layout c.args.terms.settings (network c.args.net)
    → IsNetWith wish c.args.cut.now.layout c.args.terms.settings (λ arc. 3) (network c.with_floor-higher.result)
higher c for = search (rules, third_net, has)

pub check_lengths-requires : goal.check_lengths-requires
check_lengths-requires c = search (rules, higher)

pub returns-in_err-numbering-clause-unused : goal.returns-in_err-numbering-clause-unused
returns-in_err-numbering-clause-unused c wish for =
    let net = higher (goal.at.returns-in_err-numbering-clause-unused c).After-with_floor-higher for in
    handed _ _ _ c.from_residual.ensures.1 (unused_by wish c.args.cut.now.layout (network c.with_floor-higher.result)
    c.args.terms.settings (raised (lists_of c.args.pair.first) (lists_of c.args.pair.third)) c.args.pair.third
    c.in_err-numbering.field-0.0 (λ why none. inr (
      c.requires.doubling wish for,
      wrong_of c.args.pair.third why net none,
    )) c.in_err-numbering.ensures.refused)

pub returns-clause-checked : goal.returns-clause-checked
returns-clause-checked c wish for =
    let at = (goal.at.returns-clause-checked c).After-with_floor-higher in
    let layout = c.args.cut.now.layout in
    let terms = c.args.terms in
    let net = network c.with_floor-higher.result in
    let third = c.args.pair.third in
    let gives = rw c.in-Whole.is at c.in_ok-numbering.ensures.gives in
    let cert = solved layout terms.settings net third (higher at for) c.in_ok-numbering.ensures.solved in
    record {
      kept = keeps layout terms.settings terms.rising (raised (lists_of c.args.pair.first) (lists_of third))
          third.x.items c.in-Whole.numbering refl (c.requires.pair.reach.2, c.requires.doubling wish for, cert) gives.0;
      found = refl;
      front = refl;
      deviates = gives.1 ∙ floors_deviation (network c.args.net) (λ a. 3) net (has at) (entries third.x.items);
    }

pub unreachable-requires : goal.unreachable-requires
unreachable-requires c = search (rules, has)
