use Rattle.{def_flow.specs.Network.network, error_laws.proofs.Errors.handed, remesh_laws.proofs.Keeps.are_lengths}
use Rattle.qm_check.proofs.lengths.check_lengths.Goals as goal

pub returns-in_err-deviation-clause-refused : goal.returns-in_err-deviation-clause-refused
returns-in_err-deviation-clause-refused c =
    handed _ _ _ c.from_residual.ensures.1 (c.in_err-deviation.ensures.refused c.args.cut.now.layout)

pub plan_over-requires-clause-lengths : goal.plan_over-requires-clause-lengths
plan_over-requires-clause-lengths c =
    are_lengths c.args.cut.now.layout c.requires.cert.settings (network c.args.net.now) c.args.cert.now _
    c.requires.cert.of_layout c.in_ok-deviation.ensures.solved c.deref.ensures.value

pub returns-in-Ok-clause-gives : goal.returns-in-Ok-clause-gives
returns-in-Ok-clause-gives c = (
  rw (← c.deref.ensures.value) (record {
    numbering = c.in-Ok.ensures.numbering;
    lengths = c.in-Ok.ensures.lengths;
    undoubled = c.in-Ok.ensures.undoubled;
    shape = c.in-Ok.ensures.shape;
  }),
  c.in_ok-deviation.ensures.told,
)
