use Rattle.std.proofs.Common.{rules, ap, arith, length, sym, ◌<◌}
use Rattle.{std.proofs.lemmas.Bool.eqb-false}
use Rattle.{qm_certtext.specs.declared.parts.Found.Found}
use Rattle.{qm_certtext.proofs.Chosen.ends_some, def_certtext.specs.declared.certs.Round.Round}

pub returns : Rattle.qm_certtext.proofs.parts.Found.end_round.Goals.returns
returns c =
    let new : Found = record {
      first = c.args.self.now.first;
      rounds = c.push.new.self;
      last = c.replace-last.new.dest;
      rises = c.replace-rises.new.dest;
    } in
    let round : Round = record { cert = c.in_ok-cert.cert; rises = c.replace-rises.result } in
    let long = eqb-false _ 0 (sym c.if-is_empty.ensures) in
    let some : 0 < length c.args.self.now.rises.items = omega arith in
    ends_some _ _ _ some c.in_ok-push.ensures.items (search rules) (search rules) (search rules)
    (ap (λ rises. rises.items) c.replace-rises.ensures.value)
