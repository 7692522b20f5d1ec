-- What a round of the descent finds.
use Rattle.std.specs.Prelude.{◌≡◌, ℕ, ◌*◌, ◌<◌, Bool, not, List, length, ℤ, pos, ◌-ℤ◌, ◌*ℤ◌, int_lt}
use Rattle.def_matching.specs.Dual.{dual, verdict, IsSmallDual}
use Rattle.def_matching.specs.declared.weighted.Verdict.TheVariants.{Yes}
use Rattle.def_flow.specs.Network.{Network}
use Rattle.def_flow.specs.Admissible.{IsAdmissible, deviation, entries}
use Rattle.def_flow.specs.MatchingGraph.{matching_graph}
use Rattle.def_flow.specs.Units.{on_cost}
use Rattle.def_flow.specs.declared.limits.TheConstants.{MAX_LENGTH}
use Rattle.def_flow.specs.declared.net.Arc.{Arc}
use Rattle.qm_solve.specs.declared.round.Round.{Round}
use Rattle.qm_solve.specs.declared.round.Round.TheVariants.{Better, Least}

-- An admissible list of less deviation than xs.
pub record IsBetter (net : Network) (xs ys : List ℕ) : Type 0 where
  pub count : length ys ≡ length net.arcs
  pub admissible : IsAdmissible net (entries ys)
  pub less : deviation net (entries ys) < deviation net (entries xs)

-- A better list, or a dual over the matching graph of xs that says yes with twice the cost of the units that are on.
abbrev pub IsRound : (net : Network) (step : ℕ) (xs : List ℕ) (round : Round) → Type 0
IsRound net step xs (Better x) = IsBetter net xs x.items
IsRound net step xs (Least d) =
    (verdict (matching_graph net step xs) (dual d) ≡ Yes (pos 2 *ℤ on_cost net step xs)) × IsSmallDual (dual d)

-- The length of an arc stays in range where the deviation is no greater.
abbrev pub is_near_arc : (net : Network) (far : ℤ) (a : Arc) → Bool
is_near_arc net far a = not (int_lt (pos MAX_LENGTH *ℤ pos net.q -ℤ pos (net.p * a.old)) far)
