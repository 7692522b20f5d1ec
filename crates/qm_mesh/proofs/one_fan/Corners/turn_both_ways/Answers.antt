use Rattle.{std.proofs.Common.arith, qm_mesh.proofs.Marks.visit_both}

pub returns-clause-visit : Rattle.qm_mesh.proofs.one_fan.Corners.turn_both_ways.Goals.returns-clause-visit
returns-clause-visit c =
    let self = c.args.self.now in
    visit_both self.twins.now c.args.first self.seen.items _ _ (omega (arith, self.long, c.requires.dart))
    c.requires.unseen c.turn.ensures.walk (rw c.turn.ensures.same at c.turn-2.ensures.walk)
