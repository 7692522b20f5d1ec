use Rattle.{qm_marks.proofs.EdgeMarks.sorted_are, qm_marks.specs.declared.ends.TheConstants.FEW}

pub returns : Rattle.qm_marks.proofs.ends.sorted_ends.Goals.returns
returns c = sorted_are c.args.mesh.now FEW c.in_ok-keys.keys.items c.sort.new.keys.items c.in_ok-keys.ensures
    c.sort.ensures.moved c.sort.ensures.rising
