-- Gadgets, and the lists that their matchings tell.
use Rattle.std.specs.Prelude.{◌≡◌, ℕ, ◌+◌, ◌*◌, ◌<◌, ◌≤◌, List, length, slice_index}
use Rattle.def_matching.specs.Matching.{graph}
use Rattle.def_flow.specs.Network.{Network, tangle_number}
use Rattle.def_flow.specs.Admissible.{AreNetLengths, IsAdmissible, entries}
use Rattle.def_flow.specs.Units.{arcwise, low, cap}
use Rattle.def_flow.specs.MatchingGraph.{matching_graph}
use Rattle.def_flow.specs.declared.gadget.Gadget.{Gadget}
use Rattle.def_flow.specs.declared.limits.TheConstants.{MAX_STEP, MAX_TANGLE}

-- A length that is a whole number of steps above a low, no more than the cap.
pub record IsStepUp (low cap step y : ℕ) : Type 0 where
  pub up : ℕ
  pub few : up ≤ cap
  pub is : y ≡ low + up * step

-- A list is in a box: one entry for each low, a whole number of steps above it.
pub record IsInBox (step : ℕ) (lows caps ys : List ℕ) : Type 0 where
  pub count : length ys ≡ length lows
  pub each : (k : ℕ) → k < length ys → IsStepUp (slice_index lows k) (slice_index caps k) step (slice_index ys k)

-- The least list of the box of xs, and the numbers of units of its arcs.
abbrev pub lows : (net : Network) (step : ℕ) (xs : List ℕ) → List ℕ
lows net step xs = arcwise (low step) net.arcs xs

abbrev pub caps : (net : Network) (step : ℕ) (xs : List ℕ) → List ℕ
caps net step xs = arcwise (cap step) net.arcs xs

-- A gadget is the matching graph of some admissible list, with the lows and caps of its arcs.
pub record IsGadgetOf (net : Network) (g : Gadget) : Type 0 where
  pub x : List ℕ
  pub lengths : AreNetLengths net.arcs x
  pub admissible : IsAdmissible net (entries x)
  pub tangle : tangle_number net ≤ MAX_TANGLE
  pub steps : (1 ≤ g.step) × (g.step ≤ MAX_STEP)
  pub graphs : graph g.graph ≡ matching_graph net g.step x
  pub lows : g.low.items ≡ lows net g.step x
  pub caps : g.cap.items ≡ caps net g.step x
