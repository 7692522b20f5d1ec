use Rattle.std.proofs.Common.{◌≡◌, ◌++◌, length, map}
use Rattle.def_io.specs.Lines.{lines_of}
use Rattle.qm_lib.proofs.words.WordLines.of.Given as goal

-- The lines so far and those of what is left are the lines of the text.
abbrev pub invariant-loop-line : goal.invariant-loop-line
invariant-loop-line l = record {
  cut : map (λ line. line.now) l.lines.items ++ lines_of l.rest ≡ lines_of l.text;
}

abbrev pub decreases-loop-line : goal.decreases-loop-line
decreases-loop-line l = length l.rest
