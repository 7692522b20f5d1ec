use Rattle.std.proofs.Common.{arith, rules}
use Rattle.qm_obj.proofs.FeedLemmas.{is_nothing, last_refused, last_same, sound_of}
use Rattle.qm_obj.proofs.joiner.Joiner.read_rest.Goals as goal

pub returns-then-is_empty-clause-same : goal.returns-then-is_empty-clause-same
returns-then-is_empty-clause-same c = search (rules, is_nothing c.if-is_empty.ensures c.args.self.now.joined.ok.0)

pub returns-in_err-take-clause-refused : goal.returns-in_err-take-clause-refused
returns-in_err-take-clause-refused c = grind (arith, last_refused (sound_of c.args.self.now))

pub returns-clause-same : goal.returns-clause-same
returns-clause-same c = search (rules, last_same (sound_of c.args.self.now))
