use Rattle.{std.proofs.Common.map, def_cut.specs.Grids.rectangle, qm_grid.proofs.Found.AreFoundSoFar}

-- the faces before f are seen, and the grids found so far hold the seen ones
abbrev pub invariant-loop-f : Rattle.qm_grid.proofs.by_face.in_order.Given.invariant-loop-f
invariant-loop-f l = AreFoundSoFar l.cut.faces l.cut.marks l.f l.seen (map rectangle l.found.items)
