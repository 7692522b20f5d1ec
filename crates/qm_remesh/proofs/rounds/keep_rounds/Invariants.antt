use Rattle.qm_remesh.specs.Rounds.{room_of, IsLedBy}
use Rattle.{def_fit.specs.Aims.fit_settings, def_flow.specs.Network.network}
use Rattle.qm_remesh.proofs.rounds.keep_rounds.Given as goal

abbrev pub invariant-rounds : goal.invariant-rounds
invariant-rounds l =
    IsLedBy l.cut.layout (fit_settings l.fit) (network l.fn.net) l.led.rounds.items (network l.led.net) l.led.cert

abbrev pub decreases-rounds : goal.decreases-rounds
decreases-rounds l = room_of l.led.net.arcs.items
