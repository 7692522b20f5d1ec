use Rattle.qm_remesh.proofs.{keeping.keep.Goals.In-Ok}
use Rattle.{def_flow.specs.Network.network, def_remesh.specs.Keeping.IsNetFor, def_remesh.specs.Tasks.old_lengths}
use Rattle.qm_remesh.proofs.keeping.keep.Goals as goal

pub net_of-requires-clause-layout : goal.net_of-requires-clause-layout
net_of-requires-clause-layout c = rw c.layout.ensures.layout c.layout.ensures.laid.0

pub returns-in-Err-Tangled-clause-refused : goal.returns-in-Err-Tangled-clause-refused
returns-in-Err-Tangled-clause-refused c = rw (c.in-Err-Tangled.count-is, ← c.layout.ensures.layout)
    (rw c.in-Err-Tangled.field-0-is at c.in-Err-Tangled.ensures.tangled)

net : (c : In-Ok) → IsNetFor old_lengths c.args.cut.now.layout c.args.terms.settings (network c.in-Ok.net)
net c = record {
  mesh = c.layout.ensures.laid.0;
  floor = λ arc. c.requires.settings.floor.low;
  is = rw (← c.layout.ensures.layout) c.in-Ok.ensures.net;
  bounds = c.in-Ok.ensures.bounds;
  untangled = c.in-Ok.ensures.small;
}

pub keep_solved-requires-clause-net : goal.keep_solved-requires-clause-net
keep_solved-requires-clause-net c = (old_lengths, net (goal.at.keep_solved-requires-clause-net c).In-Ok)

pub returns-clause-kept : goal.returns-clause-kept
returns-clause-kept c = c.keep_solved.ensures.kept old_lengths (net (goal.at.returns-clause-kept c).In-Ok)

pub returns-clause-refused : goal.returns-clause-refused
returns-clause-refused c = c.keep_solved.ensures.refused old_lengths (net (goal.at.returns-clause-refused c).In-Ok)
