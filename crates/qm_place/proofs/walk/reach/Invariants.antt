use Rattle.std.proofs.Common.{◌≡◌, ◌-◌, ◌^◌, ◌<◌, length}
use Rattle.qm_place.specs.Walks.{share_in, HasReached}
use Rattle.qm_place.proofs.walk.reach.Given as goal

abbrev pub invariant-edges : goal.invariant-edges
invariant-edges l = record {
  reached : HasReached l.path l.at l.k l.new;
  share : l.share ≡ share_in l.path l.at.edge;
  small : l.share < 2 ^ 62;
}

abbrev pub decreases-edges : goal.decreases-edges
decreases-edges l = length l.path.darts.now - l.at.edge
