use Rattle.std.proofs.Common.{◌≡◌, ◌≤◌, ◌<◌, ◌-◌, length}
use Rattle.qm_obj.specs.Feeding.{FedTo}
use Rattle.qm_obj.proofs.soup.feed_of.Given as goal

abbrev pub invariant-pieces : goal.invariant-pieces
invariant-pieces g l = record {
  fed : FedTo (g.S.Source.state l.initial.src).told (g.S.Source.state l.src).told (l.limit - l.room) l.feed;
  calm : (g.S.Source.state l.src).faults ≡ (g.S.Source.state l.initial.src).faults;
  short : l.room ≤ l.limit;
  room : 0 < length l.buffer.items;
}

abbrev pub decreases-pieces : goal.decreases-pieces
decreases-pieces g l = l.room
