use Rattle.{def_mesh.specs.Vertices.vertex_count, qm_sing.specs.Rings.AreSeedMarks}

-- The seeds that darts before d leave are marked.
abbrev pub invariant-loop-d : Rattle.qm_sing.proofs.rings.mark.Given.invariant-loop-d
invariant-loop-d l = AreSeedMarks l.classed.mesh.now (vertex_count l.classed.mesh.now) l.d l.marks
