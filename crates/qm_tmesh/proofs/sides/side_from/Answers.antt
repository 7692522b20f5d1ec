use Rattle.{std.proofs.Common.arith, std.proofs.Common.◌∙◌, qm_tmesh.proofs.Splits.begins}
use Rattle.qm_tmesh.proofs.Splits.{side_straight, side_split}
use Rattle.qm_tmesh.proofs.sides.side_from.Goals as goal

pub line-requires-clause-straight : goal.line-requires-clause-straight
line-requires-clause-straight c t l = let h = c.requires in
    rw h.4 (side_straight h.0 h.2 h.3 t (omega (arith, h.5)))

pub side-requires : goal.side-requires
side-requires c = let h = c.requires in
    rw (c.deref.ensures.value ∙ c.in_ok-darts.ensures, h.4, h.5) (begins h.0 h.2 h.3, side_split h.0 h.2 h.3)
