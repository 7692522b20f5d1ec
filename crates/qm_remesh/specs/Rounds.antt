-- The floors of a fit, and rounds in which they rise.
use Rattle.std.specs.Prelude.{◌≡◌, ◌+◌, ◌-◌, ◌<◌, ℕ, if◌then◌else◌, List, length, slice_index, slice_index_or}
use Rattle.std.specs.Prelude.{ℤ, pos, ◌-ℤ◌}
use Rattle.def_certtext.specs.declared.certs.Round.{Round}
use Rattle.def_fit.specs.Aims.{fit_settings, AreAimedNear}
use Rattle.def_fit.specs.declared.fit.Aim.TheVariants.{Scale}
use Rattle.def_fit.specs.declared.fit.Fit.{Fit}
use Rattle.def_flow.specs.Accepted.{certificate}
use Rattle.def_flow.specs.Admissible.{arc_deviation, IsEven}
use Rattle.def_flow.specs.Descent.{IsSolution}
use Rattle.def_flow.specs.Network.{arc_at, Network}
use Rattle.def_flow.specs.declared.cert.Cert.{Cert}
use Rattle.def_flow.specs.declared.limits.TheConstants.{MAX_FLOOR}
use Rattle.def_flow.specs.declared.net.Arc.{Arc}
use Rattle.def_flow.specs.declared.net.Settings.{Settings}
use Rattle.def_layout.specs.Layouts.{Layout}
use Rattle.def_layoutnet.specs.Floors.{floor_of}
use Rattle.def_math.specs.Counts.{count_below}
use Rattle.def_remesh.specs.Certified.{IsCertified}
use Rattle.def_remesh.specs.Keeping.{IsNetFor, IsNetWith}
use Rattle.def_remesh.specs.Tasks.{given_floors, Wish}
use Rattle.remesh_laws.specs.Keeps.{floors_behind, AreLed}

-- The greatest floor that an arc may get.
abbrev pub greatest_floor : (fit : Fit) → ℕ
greatest_floor fit = if fit.auto then MAX_FLOOR else fit.floor

-- The network of a layout for what a fit aims at.
pub record IsFitNet (fit : Fit) (layout : Layout) (net : Network) : Type 0 where
  pub wish : Wish
  pub for : IsNetFor wish layout (fit_settings fit) net
  pub near : AreAimedNear fit.aim wish layout
  pub even : (p q : ℕ) → fit.aim ≡ Scale p q → IsEven net

-- Rounds of a layout whose network was this at first, the network with the floors that rose in them, and a certificate
-- that solves it.
pub record IsLedBy
    (layout : Layout) (settings : Settings) (first : Network) (rounds : List Round) (net : Network) (cert : Cert)
    : Type 0 where
  pub solved : IsSolution net (certificate cert)
  pub even : IsEven first → IsEven net
  pub led : (wish : Wish) → IsNetFor wish layout settings first
      → AreLed (IsCertified wish layout settings) layout rounds (given_floors settings)
  pub behind : (wish : Wish) → IsNetFor wish layout settings first
      → IsNetWith wish layout settings (floors_behind rounds (given_floors settings)) net

-- How far the floors of arcs are below the greatest, in all.
abbrev pub room_of : (arcs : List Arc) → ℕ
room_of arcs = count_below (λ a. MAX_FLOOR - floor_of arcs a) (length arcs)

-- What one edge more on an arc of this length costs: how much farther the arc gets from what is wanted of it.
abbrev pub price_at : (net : Network) (arc : Arc) (long : ℕ) → ℤ
price_at net arc long = pos (arc_deviation net arc (pos (long + 1))) -ℤ pos (arc_deviation net arc (pos long))

-- Each of the first arcs has its price.
pub record ArePrices (net : Network) (xs : List ℕ) (arcs : ℕ) (prices : List ℤ) : Type 0 where
  pub long : length prices ≡ arcs
  pub each : (k : ℕ) → k < arcs → slice_index_or prices k (pos 0) ≡ price_at net (arc_at net.arcs k) (slice_index xs k)
