use Rattle.{std.proofs.Common.ap, std.proofs.Common.Some, qm_lib.proofs.Told.ran_over}

pub returns-in-Ok : Rattle.qm_lib.proofs.run_over.Goals.returns-in-Ok
returns-in-Ok c = ran_over (λ s. s.left.now) c.args.words.now c.args.input.now _ _ c.args.out.now _ c.args.err.now _ _ _
    c.run_process.ensures.ends (ap Some c.in-Ok.ensures) c.new-source.ensures c.requires.new_out c.requires.new_err
