use Rattle.std.proofs.lemmas.Grind.{common_steps}
use Rattle.std.proofs.Common.{rules}
use Rattle.qm_tmesh.proofs.{Built.to_marked, Built.table_of, Built.have_patches, Built.is_layout, UseTables.to_named}
use Rattle.def_cut.specs.{FullCut.is_on, Grids.rectangle, Grids.IsPartition, Steps.face_of}
use Rattle.qm_tmesh.{proofs.UseTables.arcs_few, proofs.build.layout.Goals.In_ok-nodes, specs.Tables.IsMarked}
use Rattle.std.proofs.{Common.map, Common.arith, lemmas.List.length-map}
use Rattle.{def_layout.specs.Arcs.path, def_mesh.specs.HalfEdges.half_edges}
use Rattle.qm_tmesh.proofs.build.layout.Goals as goal

-- The nodes are marked.
marked : (c : In_ok-nodes) → IsMarked c.args.mesh.now c.as_slice-cut.result.now c.in_ok-nodes.nodes.marks.items
marked c = search (rules, to_marked)

parts : (c : In_ok-nodes) → IsPartition (half_edges c.args.mesh.now) (is_on c.as_slice-cut.result.now) face_of
    (map rectangle c.args.patches.items)
parts c = rw c.as_slice-cut.ensures.value c.requires.patches

pub starts-requires : goal.starts-requires
starts-requires c = rw c.deref.ensures.value (marked (goal.at.starts-requires c).In_ok-nodes)

pub arcs-requires-clause-marked : goal.arcs-requires-clause-marked
arcs-requires-clause-marked c = marked (goal.at.arcs-requires-clause-marked c).In_ok-nodes

pub uses-requires-clause-marked : goal.uses-requires-clause-marked
uses-requires-clause-marked c = rw c.deref-3.ensures.value (marked (goal.at.uses-requires-clause-marked c).In_ok-nodes)

pub uses-requires-clause-arcs : goal.uses-requires-clause-arcs
uses-requires-clause-arcs c = rw c.deref-4.ensures.value
    (to_named (marked (goal.at.uses-requires-clause-arcs c).In_ok-nodes) c.in_ok-arcs.ensures)

pub uses-requires-clause-few : goal.uses-requires-clause-few
uses-requires-clause-few c =
    grind (arith, common_steps, arcs_few (marked (goal.at.uses-requires-clause-few c).In_ok-nodes) c.in_ok-arcs.ensures)

pub sides-requires : goal.sides-requires
sides-requires c =
    let at = (goal.at.sides-requires c).In_ok-nodes in
    rw c.deref-5.ensures.value (have_patches (marked at) (omega arith) (parts at) c.in_ok-arcs.ensures
    (table_of c.deref-4.ensures.value c.in_ok-uses.ensures))

pub returns : goal.returns
returns c =
    let at = (goal.at.returns c).In_ok-nodes in
    rw (← c.as_slice-cut.ensures.value) (is_layout (marked at) (omega arith) (parts at) c.in_ok-arcs.ensures
    (table_of c.deref-4.ensures.value c.in_ok-uses.ensures) (rw c.deref-5.ensures.value at c.in_ok-sides.ensures)
    c.in_ok-nodes.ensures.list)
