use Rattle.std.proofs.Common.{◌≡◌, ◌≤◌, ◌<◌, ◌+◌, ◌-◌, length}
use Rattle.def_io.specs.Moves.{gave}
use Rattle.qm_io.proofs.reading.read_bytes.Given as goal

abbrev pub invariant-pieces : goal.invariant-pieces
invariant-pieces g l = record {
  given : (g.S.Source.state l.initial.src).told ≡ gave l.bytes.items (g.S.Source.state l.src).told;
  calm : (g.S.Source.state l.src).faults ≡ (g.S.Source.state l.initial.src).faults;
  short : length l.bytes.items ≤ l.limit;
  room : 0 < length l.buffer.items;
}

abbrev pub decreases-pieces : goal.decreases-pieces
decreases-pieces g l = l.limit + 1 - length l.bytes.items
