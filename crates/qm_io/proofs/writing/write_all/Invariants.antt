use Rattle.std.proofs.Common.{◌≡◌, ◌-◌, length, drop, take}
use Rattle.def_io.specs.Moves.{took}
use Rattle.qm_io.proofs.writing.write_all.Given as goal

abbrev pub invariant-loop-rest : goal.invariant-loop-rest
invariant-loop-rest g l = record {
  part : l.rest ≡ drop (length l.piece - length l.rest) l.piece;
  taken : (g.K.Sink.state l.sink).told ≡ took (g.K.Sink.state l.initial.sink).told
      (take (length l.piece - length l.rest) l.piece);
  calm : (g.K.Sink.state l.sink).faults ≡ (g.K.Sink.state l.initial.sink).faults;
}

abbrev pub decreases-loop-rest : goal.decreases-loop-rest
decreases-loop-rest g l = length l.rest
