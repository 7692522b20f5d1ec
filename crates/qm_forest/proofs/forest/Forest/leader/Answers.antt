use Rattle.qm_forest.proofs.Expandings.{leader_of}

pub returns-clause-value : Rattle.qm_forest.proofs.forest.Forest.leader.Goals.returns-clause-value
returns-clause-value c =
    leader_of c.self.invariant _ c.self.view_is (rw (← c.self.view_is) at c.requires) c.index.ensures
