use Rattle.std.proofs.Common.{rules, append_assoc}
use Rattle.qm_certtext.proofs.Texts.{round_lines_are, text_both, ups_rounds, ups_used, used_risen}
use Rattle.qm_certtext.proofs.certs.push_chosen.Goals as goal

pub push_rounds-requires : goal.push_rounds-requires
push_rounds-requires c = search (rules, ups_rounds)

pub push_cert-requires-in-Risen : goal.push_cert-requires-in-Risen
push_cert-requires-in-Risen c = search (rules, used_risen, ups_used)

pub returns-in_ok-push_rounds-in-Risen : goal.returns-in_ok-push_rounds-in-Risen
returns-in_ok-push_rounds-in-Risen c =
    search (rules, ← round_lines_are c.in-Risen.rounds.items, text_both, append_assoc c.args.text.now.items)
