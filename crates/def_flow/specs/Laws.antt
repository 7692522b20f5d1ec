-- What matchings of the matching graph, lists of lengths and accepted certificates tell of each other.
use Rattle.std.specs.Prelude.{◌≡◌, ℕ, ◌*◌, ◌<◌, ◌≤◌, List, length, pos, ◌-ℤ◌, ◌≤ℤ◌, unsigned_abs}
use Rattle.def_matching.specs.Matching.{EdgeNumber, IsGraph, IsPerfect, edge_at, matching_cost}
use Rattle.def_flow.specs.Network.{Network, IsWithinBounds, tangle_number}
use Rattle.def_flow.specs.Admissible.{IsAdmissible, IsLeast, deviation, entries}
use Rattle.def_flow.specs.MatchingGraph.{matching_graph}
use Rattle.def_flow.specs.Gadget.{IsInBox, lows, caps}
use Rattle.def_flow.specs.Accepted.{Certificate, IsAccepted}
use Rattle.def_flow.specs.declared.limits.TheConstants.{MAX_SCALE, MAX_WEIGHT}

-- The graph law: the matching graph is a graph.
abbrev pub MatchingGraphLaw : Type 0
MatchingGraphLaw = (net : Network) (step : ℕ) (xs : List ℕ) → IsWithinBounds net → IsGraph (matching_graph net step xs)

-- The cost law: no edge costs more than the greatest weight and scale make of a step, up or down.
abbrev pub CostLaw : Type 0
CostLaw = (net : Network) (step : ℕ) (xs : List ℕ) → IsWithinBounds net
    → (k : EdgeNumber) → k < length (matching_graph net step xs).edges
    → unsigned_abs (edge_at (matching_graph net step xs) k).cost ≤ MAX_WEIGHT * (MAX_SCALE * step)

-- An admissible list, with one length for each arc, to build a matching graph from by steps from 1 on.
pub record IsStart (net : Network) (step : ℕ) (xs : List ℕ) : Type 0 where
  pub bounds : IsWithinBounds net
  pub positive : 1 ≤ step
  pub count : length xs ≡ length net.arcs
  pub admissible : IsAdmissible net (entries xs)

-- A perfect matching for a list ys: it costs the deviation of ys less that of the lows.
pub record HasMatching (net : Network) (step : ℕ) (xs ys : List ℕ) : Type 0 where
  pub matching : List EdgeNumber
  pub perfect : IsPerfect (matching_graph net step xs) matching
  pub cost : matching_cost (matching_graph net step xs) matching
      ≡ pos (deviation net (entries ys)) -ℤ pos (deviation net (entries (lows net step xs)))

-- The matching law: an admissible list in the box of an admissible list has a perfect matching.
abbrev pub MatchingLaw : Type 0
MatchingLaw = (net : Network) (step : ℕ) (xs ys : List ℕ) → IsStart net step xs
    → IsAdmissible net (entries ys) → IsInBox step (lows net step xs) (caps net step xs) ys → HasMatching net step xs ys

-- A list for a perfect matching: admissible, in the box, and with a deviation less that of the lows that is at most
-- the cost.
pub record HasLengths (net : Network) (step : ℕ) (xs : List ℕ) (matching : List EdgeNumber) : Type 0 where
  pub ys : List ℕ
  pub admissible : IsAdmissible net (entries ys)
  pub inside : IsInBox step (lows net step xs) (caps net step xs) ys
  pub cost : (pos (deviation net (entries ys)) -ℤ pos (deviation net (entries (lows net step xs))))
      ≤ℤ matching_cost (matching_graph net step xs) matching

-- The lengths law: a perfect matching has a list.
abbrev pub LengthsLaw : Type 0
LengthsLaw = (net : Network) (step : ℕ) (xs : List ℕ) (matching : List EdgeNumber) → IsStart net step xs
    → IsPerfect (matching_graph net step xs) matching → HasLengths net step xs matching

-- The soundness law: the list of an accepted certificate is least.
abbrev pub SoundnessLaw : Type 0
SoundnessLaw = (net : Network) (c : Certificate) → IsWithinBounds net → IsAccepted net c → IsLeast net (entries c.x)

-- The size law: the matching graph of an admissible list has at most 9/16 of the tangle number of vertices, and at
-- most 9/8 of it of edges.
abbrev pub SizeLaw : Type 0
SizeLaw = (net : Network) (step : ℕ) (xs : List ℕ)
    → IsWithinBounds net → length xs ≡ length net.arcs → IsAdmissible net (entries xs)
    → (16 * (matching_graph net step xs).n ≤ 9 * tangle_number net)
    × (8 * length (matching_graph net step xs).edges ≤ 9 * tangle_number net)
