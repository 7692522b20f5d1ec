use Rattle.std.proofs.{Common.length, Common.take, Common.◌-◌, Common.◌≡◌, Common.◌≤◌}
use Rattle.{def_io.specs.Lines.lines_of, def_io.specs.Lines.tail_of, qm_certtext.specs.Parts.ReadSome}
use Rattle.qm_certtext.proofs.written.read_behind.Given as goal

abbrev pub invariant-lines : goal.invariant-lines
invariant-lines l = record {
  order : l.from ≤ l.i;
  rest : l.rest ≡ tail_of (l.i - l.from) l.text;
  low : l.i - l.from ≤ length (lines_of l.text);
  read : ReadSome l.rising (take (l.i - l.from) (lines_of l.text)) l.found;
}

abbrev pub decreases-lines : goal.decreases-lines
decreases-lines l = length l.rest
