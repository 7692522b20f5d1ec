use Rattle.qm_check.proofs.map.judge_command.Goals as goal

pub judge_refined-requires : goal.judge_refined-requires
judge_refined-requires c = record { given = rw c.in-Refine.is at c.requires.given }
