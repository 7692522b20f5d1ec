use Rattle.std.proofs.Common.{◌≤◌, length, drop}
use Rattle.qm_layoutnet.specs.Floors.{AreArcsAt}
use Rattle.{def_remesh.specs.Rises.risen_floors, def_layoutnet.specs.Floors.floor_of}
use Rattle.qm_layoutnet.proofs.floor.put_rises.Given as goal

abbrev pub invariant-loop-k : goal.invariant-loop-k
invariant-loop-k l = record {
  low : l.k ≤ length l.rises;
  done : AreArcsAt (risen_floors (drop l.k l.rises) (floor_of l.initial.arcs)) l.initial.arcs l.arcs;
}

abbrev pub decreases-loop-k : goal.decreases-loop-k
decreases-loop-k l = l.k
