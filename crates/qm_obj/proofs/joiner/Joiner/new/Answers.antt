use Rattle.{qm_obj.proofs.KeptLemmas.nothing_kept, def_text.specs.Logical.logical_lines}

pub returns-clause-same : Rattle.qm_obj.proofs.joiner.Joiner.new.Goals.returns-clause-same
returns-clause-same c = λ lines. rw (c.new.ensures.positions, c.new.ensures.faces)
    (rw (c.new.ensures.lines, c.new-2.ensures.items) (nothing_kept (logical_lines 1 lines)))
