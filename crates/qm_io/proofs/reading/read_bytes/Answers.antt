use Rattle.{std.proofs.Common.arith, std.proofs.Common.◌∙◌, qm_io.proofs.Cuts.gave_more}
use Rattle.qm_io.proofs.reading.read_bytes.Goals as goal

pub returns-then-len-limit-clause-too_long : goal.returns-then-len-limit-clause-too_long
returns-then-len-limit-clause-too_long g c _ =
    let more = c.in_ok-read_piece.ensures in (
      record {
        piece = c.read_piece.new.bytes.items;
        many = omega (arith, c.len.ensures, c.read_piece.new.bytes.ok.0, c.if-len-limit.true);
        moved = gave_more _ _ _ _ _ _ more.gained.grown c.pieces.invariant.given more.gained.moved;
      },
      more.calm ∙ c.pieces.invariant.calm,
    )
