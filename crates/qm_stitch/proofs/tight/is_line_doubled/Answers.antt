use Rattle.{std.proofs.Common.inl}
use Rattle.qm_stitch.proofs.{DoubledPairs.told_first, TightEdges.line_tells}
use Rattle.qm_stitch.proofs.tight.is_line_doubled.Goals as goal

pub returns-then-is_repeat : goal.returns-then-is_repeat
returns-then-is_repeat c = (
  λ on. (line_tells c.args.keyed.now c.requires.line).0 (inl (rw c.key_at.ensures at (c.is_repeat.ensures.0 on))),
  λ has. c.if-is_repeat.true,
)

pub returns-else-is_repeat : goal.returns-else-is_repeat
returns-else-is_repeat c = told_first (rw c.key_at.ensures at c.is_repeat.ensures)
    (rw (c.key_at-else-is_repeat.ensures, (c.size_at-last.ensures _ c.side_along.ensures.side))
    at c.is_repeat-else-is_repeat.ensures) c.if-is_repeat.false (line_tells c.args.keyed.now c.requires.line)
