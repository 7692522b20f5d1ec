-- Where the descent may begin whatever lengths are wished for.
use Rattle.std.specs.Prelude.{◌≡◌, ℕ, ◌*◌, List, length, map}
use Rattle.def_flow.specs.Descent.{IsStartOf}
use Rattle.def_flow.specs.Network.{Network}
use Rattle.def_flow.specs.declared.net.Settings.{Settings}
use Rattle.def_layout.specs.Arcs.{Path}
use Rattle.def_layout.specs.Layouts.{Layout}
use Rattle.def_remesh.specs.Keeping.{IsNetFor}
use Rattle.def_remesh.specs.Tasks.{Wish}
use Rattle.def_metric.specs.Fails.{AreNear}
use Rattle.def_metric.specs.declared.limits.TheConstants.{EDGE_PARTS}

-- The old lengths, so many times.
abbrev pub times_long : (times : ℕ) (layout : Layout) → List ℕ
times_long times layout = map (λ (path : Path). times * length path.darts) layout.arcs

-- The old lengths times the floor are a start in each network of the layout, whatever the wishes in thousandths of an
-- edge are and however arcs are weighed, if the sum of the wishes is small: opposite sides are equal, and no length is
-- below the floor.
abbrev pub StartLaw : Type 0
StartLaw = (wish : Wish) (layout : Layout) (settings : Settings) (net : Network) → IsNetFor wish layout settings net
    → settings.p ≡ 1 → settings.q ≡ EDGE_PARTS → AreNear wish layout → IsStartOf net (times_long settings.floor layout)
