use Rattle.{std.proofs.Common.rules, std.proofs.Common.◌∙◌, qm_asides.specs.Beside.asides_of}
use Rattle.{error_laws.proofs.Errors.handed, qm_check.specs.Ready.IsOld}
use Rattle.qm_check.proofs.Tasks.{aside_unmade, full, net_unmade, only_for, task, IsCutBy}
use Rattle.qm_check.proofs.{Points.point_of, making.ready_for.Goals.After-new-cut}
use Rattle.qm_check.proofs.making.ready_for.Goals as goal

-- The mesh is cut as the command asks.
old_is : (c : After-new-cut) → IsOld c.args.text.now.bytes.now c.new-cut.result.soup
old_is c = rw c.new-cut.ensures c.requires.old

cut_is : (c : After-new-cut)
    → IsCutBy c.args.least.now c.args.text.now.bytes.now c.new-cut.result (asides_of c.in_ok-asides.asides)
cut_is c =
    let (edges, chosen, laid) = rw (c.as_deref-kept.ensures.value, c.mesh.ensures) at c.in_ok-layout.ensures.chosen in
    rw c.new-cut.ensures (record {
      said = c.in_ok-asides.ensures.said;
      inner = c.in_ok-asides.ensures.inner;
      edges = edges;
      chosen = chosen;
      laid = laid;
    })

pub returns-in_err-asides-clause-unmade : goal.returns-in_err-asides-clause-unmade
returns-in_err-asides-clause-unmade c command is = handed _ _ _ c.from_residual.ensures.1
    (aside_unmade (point_of is) c.requires.old.mesh c.in_err-asides.field-0.0 c.in_err-asides.ensures.refused)

pub new-cut-requires : goal.new-cut-requires
new-cut-requires c = (c.in_ok-layout.ensures.mesh.0, c.in_ok-layout.ensures.mesh.1 ∙ c.mesh.ensures)

pub returns-in_err-net-clause-unmade : goal.returns-in_err-net-clause-unmade
returns-in_err-net-clause-unmade c command is =
    let at = (goal.at.returns-in_err-net-clause-unmade c).After-new-cut in
    handed _ _ _ c.from_residual-in_err-net.ensures.1 (net_unmade (point_of is) (old_is at) (cut_is at)
    c.in_err-net.field-0.0 (rw c.deref.ensures.value at c.in_err-net.ensures.none))

pub returns-clause-ready : goal.returns-clause-ready
returns-clause-ready c command is =
    let at = (goal.at.returns-clause-ready c).After-new-cut in
    let point = point_of is in
    let old = old_is at in
    let by = cut_is at in
    let whole = full point old by in
    let shares = rw c.deref-2.ensures.value at (c.in_ok-shares.ensures by.edges whole by.laid) in
    let net = rw c.deref.ensures.value at c.in_ok-net.ensures.net in
    record {
      task = task point old by;
      only = only_for point old by (rw c.deref.ensures.value at c.in_ok-net.ensures.near);
      holds = search (rules, point, old, by);
    }
