use mir.Syntax.{w128}
use Rattle.std.proofs.Common.{◌≡◌, pos, to_z, of_z, List, ℕ, sym, ◌∙◌, ap, subst, arith}
use Rattle.std.proofs.lemmas.Int.{ints}
use Rattle.def_certtext.specs.CertLines.{certificates_of, Lists}
use Rattle.def_flow.specs.{Admissible.deviation, Admissible.entries, Admissible.AreNetLengths, Network.network}
use Rattle.qm_top.proofs.Benched.{bench_net, deviation_kept, kept_lengths}
use Rattle.qm_top.proofs.deviation.kept_deviation.Goals as goal

pub net_of-requires-clause-layout : goal.net_of-requires-clause-layout
net_of-requires-clause-layout c = rw c.layout-t.ensures.layout c.layout-t.ensures.laid.0

pub deviation-requires-clause-lengths : goal.deviation-requires-clause-lengths
deviation-requires-clause-lengths c = subst (AreNetLengths c.in-Ok.net.arcs.items)
    (sym (c.deref.ensures.value ∙ ap (λ (l : Lists). l.x) c.used_cert.ensures)) (kept_lengths c.half-settings.ensures
    (bench_net c.layout-t.ensures.layout c.half-settings.ensures c.in-Ok.ensures.net)
    (certificates_of c.in_ok-kept.kept.certs) c.in_ok-kept.ensures.kept)

pub returns-clause-kept : goal.returns-clause-kept
returns-clause-kept c =
    let fits : to_z w128 (of_z w128 c.deviation.result) ≡ c.deviation.result =
    omega (arith, ints, c.deviation.type_inv) in
    deviation_kept c.half-settings.ensures (bench_net c.layout-t.ensures.layout c.half-settings.ensures
    c.in-Ok.ensures.net) (certificates_of c.in_ok-kept.kept.certs) _ c.layout-t.ensures.laid.0 c.in_ok-kept.ensures.kept
    (fits ∙ (c.deviation.ensures ∙ ap (λ (xs : List ℕ). pos (deviation (network c.in-Ok.net) (entries xs)))
    (c.deref.ensures.value ∙ ap (λ (l : Lists). l.x) c.used_cert.ensures)))

pub returns-clause-small : goal.returns-clause-small
returns-clause-small c = omega (arith, ints, c.deviation.type_inv)
