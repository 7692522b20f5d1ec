use Rattle.std.proofs.Common.{◌≡◌, List, ℕ, Option, sym, ◌∙◌, ap}
use Rattle.qm_cert.proofs.Checked.{no_fault, exact_accepted, accepted_where_exact, least_where_exact, faulty, faultless}
use Rattle.{def_flow.specs.Network.Network, def_flow.specs.Network.network, def_flow.specs.Accepted.certificate}
use Rattle.{def_flow.specs.declared.cert.CertVerdict.CertVerdict, qm_cert.specs.Faults.list_verdict}
use Rattle.qm_cert.proofs.accept.accepts.Goals as goal

-- The list has the fault that was found in its copy.
found : (net : Network) {given own : List ℕ} {fault : Option CertVerdict} → given ≡ own → fault ≡ list_verdict net given
    → list_verdict net own ≡ fault
found net same is = ap (list_verdict net) (sym same) ∙ sym is

pub invariant_of-listed-clause-admissible : goal.invariant_of-listed-clause-admissible
invariant_of-listed-clause-admissible c =
    let none = found (network c.args.net.now) c.deref.ensures.value c.in_ok-fault.ensures.verdict ∙ c.in-None.is in
    (no_fault (network c.args.net.now) c.args.cert.now.x.items c.requires.bounds none).1

pub returns-in-Some-clause-accepted : goal.returns-in-Some-clause-accepted
returns-in-Some-clause-accepted c =
    let net = network c.args.net.now in
    let cert = certificate c.args.cert.now in
    let some = found net c.deref.ensures.value c.in_ok-fault.ensures.verdict ∙ c.in-Some.is in
    exact_accepted net cert c.in-Some.verdict c.requires.bounds (faulty net cert c.in-Some.verdict some)

pub returns-in-None-clause-accepted : goal.returns-in-None-clause-accepted
returns-in-None-clause-accepted c =
    let net = network c.args.net.now in
    let cert = certificate c.args.cert.now in
    let none = found net c.deref.ensures.value c.in_ok-fault.ensures.verdict ∙ c.in-None.is in
    accepted_where_exact net cert c.check_dual.result c.requires.bounds
    (faultless net cert c.check_dual.result none c.check_dual.ensures)

pub returns-in-None-clause-least : goal.returns-in-None-clause-least
returns-in-None-clause-least c =
    let net = network c.args.net.now in
    let cert = certificate c.args.cert.now in
    let none = found net c.deref.ensures.value c.in_ok-fault.ensures.verdict ∙ c.in-None.is in
    least_where_exact net cert c.check_dual.result c.requires.bounds
    (faultless net cert c.check_dual.result none c.check_dual.ensures)
