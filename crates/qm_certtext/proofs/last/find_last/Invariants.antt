use Rattle.{def_io.specs.Lines.lines_of, def_io.specs.Lines.tail_of, qm_certtext.specs.Heads.IsFoundIn}
use Rattle.{std.proofs.Common.length, std.proofs.Common.◌≡◌, std.proofs.Common.◌≤◌}
use Rattle.qm_certtext.proofs.last.find_last.Given as goal

abbrev pub invariant-lines : goal.invariant-lines
invariant-lines l = record {
  rest : l.rest ≡ tail_of l.i l.bytes;
  low : l.i ≤ length (lines_of l.bytes);
  found : IsFoundIn l.prefix l.bytes l.i l.found;
}

abbrev pub decreases-lines : goal.decreases-lines
decreases-lines l = length l.rest
