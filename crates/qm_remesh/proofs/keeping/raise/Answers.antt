use Rattle.def_certtext.specs.{CertLines.lists_of, CertLines.raised, declared.certs.Rising.TheVariants.Third}
use Rattle.qm_layoutnet.proofs.Floors.{floors_at, floors_even, has_floors}
use Rattle.remesh_laws.proofs.Keeps.{are_lengths, bounded, keeps_third, long_lengths, none_doubled, solved, third_net}
use Rattle.{std.proofs.Common.refl, std.proofs.Common.arith, def_remesh.specs.Certified.AreKept}
use Rattle.{def_remesh.specs.Keeping.IsNetFor, def_remesh.specs.Tasks.Wish, remesh_laws.proofs.Keeps.too_fine}
use Rattle.{def_flow.specs.Network.network, qm_remesh.proofs.keeping.raise.Goals.In_ok-cert}
use Rattle.qm_remesh.proofs.keeping.raise.Goals as goal

pub solve-requires : goal.solve-requires
solve-requires c =
    let has = has_floors _ 3 _ c.with_floor-raised.ensures in
    let net = third_net _ _ _ _ c.requires.net.1 has in
    record { bounds = net.bounds; even = floors_even _ _ _ has c.requires.even; tangle = net.untangled }

pub plan_over-requires-clause-lengths : goal.plan_over-requires-clause-lengths
plan_over-requires-clause-lengths c =
    let net = third_net _ _ _ _ c.requires.net.1 (has_floors _ 3 _ c.with_floor-raised.ensures) in
    are_lengths _ _ _ c.in_ok-cert.cert _ net c.in_ok-cert.ensures c.deref.ensures.value

pub plan_over-requires-clause-bounded : goal.plan_over-requires-clause-bounded
plan_over-requires-clause-bounded c = bounded _ c.in_ok-cert.cert _ c.in_ok-cert.ensures c.deref.ensures.value

-- Both certificates are kept.
kept : (wish : Wish) (c : In_ok-cert) → IsNetFor wish c.args.cut.now.layout c.args.settings (network c.args.net)
    → AreKept wish c.args.cut.now.layout c.args.settings Third (raised (lists_of c.args.first)
    (lists_of c.in_ok-cert.cert))
kept wish c for = (
  refl,
  assumption (solved _ _ _ c.args.first for c.requires.solved, c.requires),
  solved _ _ _ c.in_ok-cert.cert (third_net _ _ _ _ for (has_floors _ 3 _ c.with_floor-raised.ensures))
      c.in_ok-cert.ensures,
)

pub returns-in-Ok-clause-kept : goal.returns-in-Ok-clause-kept
returns-in-Ok-clause-kept c = λ wish for. keeps_third _ _ c.args.first c.in_ok-cert.cert _ _ c.deref.ensures.value
    (kept wish (goal.at.returns-in-Ok-clause-kept c).In_ok-cert for) (assumption c.in-Ok.ensures)

pub returns-in-Err-TooFine-clause-refused : goal.returns-in-Err-TooFine-clause-refused
returns-in-Err-TooFine-clause-refused c = λ wish for. (
  kept wish (goal.at.returns-in-Err-TooFine-clause-refused c).In_ok-cert for,
  rw c.in-Err-TooFine.faces-is
      (too_fine _ _ _ _ _ c.deref.ensures.value c.in-Err-TooFine.field-0-is c.in-Err-TooFine.ensures.refused),
)

pub unreachable-requires : goal.unreachable-requires
unreachable-requires c =
    let has = has_floors _ 3 _ c.with_floor-raised.ensures in
    let long = long_lengths _ _ _ c.in_ok-cert.cert (third_net _ _ _ _ c.requires.net.1 has) c.in_ok-cert.ensures
    (λ k l. omega (arith, floors_at (network c.args.net) (λ a. 3) (network c.with_floor-raised.result) has k l)) in
    none_doubled c.args.cut.now.layout _ _ _ _ _ _ c.deref.ensures.value long c.plan_over.ensures.safe
    c.in-Err-Doubled.is c.in-Err-Doubled.field-0-is
