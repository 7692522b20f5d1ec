use Rattle.{std.proofs.Common.take, def_cuttext.specs.GridsText.arc_link_lines, qm_blocktext.specs.Gridded.arcs_of}

abbrev pub invariant-loop-at : Rattle.qm_blocktext.proofs.links.put_along.Given.invariant-loop-at
invariant-loop-at g l = g.T.Output.takes l.initial.out l.out (arc_link_lines (take l.at l.links) (arcs_of l.sides))
