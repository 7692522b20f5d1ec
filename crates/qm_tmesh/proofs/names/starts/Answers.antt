use Rattle.{std.proofs.Common.rules, std.proofs.Common.◌<◌, std.proofs.Common.arith, def_mesh.specs.Darts.darts}
use Rattle.qm_tmesh.proofs.{Walks.name_low, Walks.starts_skip, Walks.starts_more, names.starts.Goals.in-Some}
use Rattle.qm_tmesh.proofs.{names.starts.Goals.in_default}
use Rattle.qm_tmesh.proofs.names.starts.Goals as goal

pub index_mut-requires : goal.index_mut-requires
index_mut-requires c = search (rules, name_low)

pub loop-s-preserved : goal.loop-s-preserved
loop-s-preserved c = elim c.match-branch-3.branch [
  | in-Some w ↦ search (rules, starts_more)
  | in_default w ↦ rw w.starts-is (starts_skip c.requires c.loop-s.invariant
      (rw w.in_default.is at c.in_ok-name.ensures))
]
