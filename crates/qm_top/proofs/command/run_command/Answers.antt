use Rattle.std.proofs.Common.{rules}

pub returns-in-Bench-clause-run : Rattle.qm_top.proofs.command.run_command.Goals.returns-in-Bench-clause-run
returns-in-Bench-clause-run g c = search (rules, c.bench.ensures (g.S.Source.state c.args.input.now))
