use Rattle.{def_flow.specs.Network.network, remesh_laws.proofs.Keeps.too_fine, remesh_laws.proofs.ReadAgain.used_behind}
use Rattle.qm_remesh.proofs.Leading.{kept_risen, keeps_risen, led_lengths, led_long}
use Rattle.qm_remesh.proofs.rounds.keep_rounds.Goals as goal

pub plan_over-requires-clause-long : goal.plan_over-requires-clause-long
plan_over-requires-clause-long c = led_long c.requires.net c.rounds.invariant c.deref.ensures.value

pub plan_over-requires-clause-lengths : goal.plan_over-requires-clause-lengths
plan_over-requires-clause-lengths c = led_lengths c.requires.net c.rounds.invariant c.deref.ensures.value

pub returns-in-Ok-clause-kept : goal.returns-in-Ok-clause-kept
returns-in-Ok-clause-kept c = λ wish for.
    rw c.certs_of-certs.ensures (keeps_risen for c.rounds.invariant c.deref.ensures.value (assumption c.in-Ok.ensures))

pub returns-in-Err-TooFine-clause-refused : goal.returns-in-Err-TooFine-clause-refused
returns-in-Err-TooFine-clause-refused c = λ wish for.
    rw (c.certs_of-certs-in-Err-TooFine.ensures, used_behind, c.in-Err-TooFine.faces-is) (
      kept_risen for c.rounds.invariant,
      too_fine _ _ _ _ _ c.deref.ensures.value c.in-Err-TooFine.field-0-is c.in-Err-TooFine.ensures.refused,
    )

pub next_round-requires-clause-led : goal.next_round-requires-clause-led
next_round-requires-clause-led c = (network c.args.net, c.requires.net, c.rounds.invariant)

pub next_round-requires-clause-doubled : goal.next_round-requires-clause-doubled
next_round-requires-clause-doubled c =
    let both = rw (c.in-Err-Doubled.field-0-is, c.deref.ensures.value) at c.in-Err-Doubled.ensures.refused in
    (_, _, both.1.doubled)

pub rounds-preserved : goal.rounds-preserved
rounds-preserved c = c.in_ok-led-in-Err-Doubled.ensures.led (network c.args.net) c.rounds.invariant
