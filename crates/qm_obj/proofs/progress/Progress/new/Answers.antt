use Rattle.def_io.specs.Lines.{lines_of}

pub returns-clause-same : Rattle.qm_obj.proofs.progress.Progress.new.Goals.returns-clause-same
returns-clause-same c = λ more. rw c.new-2.ensures.items (c.new.ensures.same (lines_of more))
