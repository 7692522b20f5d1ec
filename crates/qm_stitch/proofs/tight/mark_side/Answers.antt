use Rattle.{std.proofs.Common.rules, def_layout.specs.Layouts.layout_of}
use Rattle.qm_stitch.proofs.{Built.adds_side, Grids.uses_low}
use Rattle.qm_stitch.proofs.tight.mark_side.Goals as goal

pub mark_uses-requires : goal.mark_uses-requires
mark_uses-requires c = search (rules, uses_low)

pub returns : goal.returns
returns c = adds_side (layout_of c.args.numbered.now.t.now) _ _ _ _ _ c.side_of.ensures c.mark_uses.ensures
