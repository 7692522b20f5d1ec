use Rattle.{std.proofs.Common.◌≡◌, qm_match.specs.States.IsIdle}
use Rattle.qm_match.proofs.search.Search.match_tight.Given as goal

abbrev pub invariant-loop-e : goal.invariant-loop-e
invariant-loop-e l = record { idle : IsIdle l.g.graph l.self; first : l.self.first ≡ l.fn.self.first }

abbrev pub invariant-loop-e-2 : goal.invariant-loop-e-2
invariant-loop-e-2 l = record { idle : IsIdle l.g.graph l.self; first : l.self.first ≡ l.fn.self.first }

abbrev pub invariant-loop-e-3 : goal.invariant-loop-e-3
invariant-loop-e-3 l = record { idle : IsIdle l.g.graph l.self; first : l.self.first ≡ l.fn.self.first }
