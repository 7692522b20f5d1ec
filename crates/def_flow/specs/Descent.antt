-- Where a descent to a least list may begin, and what it ends with.
use Rattle.std.specs.Prelude.{◌≡◌, ℕ, ◌+◌, ◌*◌, ◌/◌, ◌<◌, ◌≤◌, max, List, [], ◌∷◌, length, map}
use Rattle.def_matching.specs.Dual.{IsSmallDual}
use Rattle.def_flow.specs.Network.{Network, ArcNumber, arc_at}
use Rattle.def_flow.specs.Admissible.{AreNetLengths, IsAdmissible, deviation, entries}
use Rattle.def_flow.specs.Accepted.{Certificate, IsAccepted}
use Rattle.def_flow.specs.declared.limits.TheConstants.{MAX_LENGTH}
use Rattle.def_flow.specs.declared.net.Arc.{Arc}

-- An admissible list, from which no list of less deviation has too great a length.
pub record IsStartOf (net : Network) (xs : List ℕ) : Type 0 where
  pub count : length xs ≡ length net.arcs
  pub admissible : IsAdmissible net (entries xs)
  pub near : (k : ArcNumber) → k < length net.arcs
      → net.p * (arc_at net.arcs k).old + deviation net (entries xs) ≤ MAX_LENGTH * net.q

-- The old lengths, so many times.
abbrev pub times_old : (times : ℕ) (arcs : List Arc) → List ℕ
times_old times arcs = map (λ a. times * a.old) arcs

-- The greatest floor of the arcs.
abbrev pub greatest_floor : (arcs : List Arc) → ℕ
greatest_floor [] = 0
greatest_floor (a ∷ arcs) = max a.floor (greatest_floor arcs)

-- The multiple of the old lengths that is at least each floor and nearest to what is wanted from below.
abbrev pub old_multiple : (net : Network) → List ℕ
old_multiple net = times_old (max (greatest_floor net.arcs) (net.p / net.q)) net.arcs

-- An accepted certificate with lengths and numbers in range.
pub record IsSolution (net : Network) (c : Certificate) : Type 0 where
  pub accepted : IsAccepted net c
  pub lengths : AreNetLengths net.arcs c.x
  pub small : IsSmallDual c.dual
