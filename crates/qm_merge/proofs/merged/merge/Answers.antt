use Rattle.std.proofs.Common.{rules, ◌≡◌, replicate, false}
use Rattle.{def_mesh.specs.Darts.darts, def_mesh.specs.Vertices.vertex_count, merge_laws.proofs.Beside.none_beside}
use Rattle.{merge_laws.proofs.Beside.none_broken, qm_merge.proofs.merged.merge.Goals.After-deref-2}
use Rattle.qm_merge.proofs.merged.merge.Goals as goal

-- No mark is set.
marks_are : (c : After-deref-2) → c.deref.result.now ≡ replicate (darts c.args.mesh.now) false
marks_are c = rw c.deref.ensures.value (search rules)

pub merge_beside-requires-clause-breaks : goal.merge_beside-requires-clause-breaks
merge_beside-requires-clause-breaks c = search (rules, none_broken)

pub merge_beside-requires-clause-beside : goal.merge_beside-requires-clause-beside
merge_beside-requires-clause-beside c = search (rules, marks_are, none_beside)
