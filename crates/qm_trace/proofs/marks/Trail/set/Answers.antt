use Rattle.std.proofs.Common.{rules, arith}
use Rattle.{motion_laws.proofs.Marks.among_at, qm_trace.proofs.Tellings.marks_more}
use Rattle.qm_trace.proofs.marks.Trail.set.Goals as goal

pub index_mut-requires : goal.index_mut-requires
index_mut-requires c = let low = c.args.self.now.low _ (among_at _ _ c.loop-d-test.true) in omega arith

pub loop-d-preserved : goal.loop-d-preserved
loop-d-preserved c = let low = c.args.self.now.low _ (among_at _ _ c.loop-d-test.true) in search (rules, marks_more)
