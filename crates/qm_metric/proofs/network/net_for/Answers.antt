use Rattle.std.proofs.Common.{length, ap, arith}
use Rattle.{def_fit.specs.Aims.fit_settings, def_certtext.specs.Risings.rounds_if, qm_layoutnet.proofs.Whole.runs_short}
use Rattle.{def_metric.specs.Fails.metric_fail_of, def_layoutnet.specs.MeshLayouts.IsSomeLayout}
use Rattle.qm_metric.proofs.Nets.{are_found, few_arcs, no_net, settings_fit, AreFound, runs_inside}
use Rattle.qm_metric.proofs.network.net_for.Goals.{After-deref, In_ok-sums}
use Rattle.{def_flow.specs.Network.network, def_layout.specs.Layouts.layout_of, error_laws.proofs.Errors.handed}
use Rattle.qm_metric.proofs.network.net_for.Goals as goal

pub net_of-requires-clause-layout : goal.net_of-requires-clause-layout
net_of-requires-clause-layout c = rw c.layout-layout.ensures.layout c.layout-layout.ensures.laid.0

pub net_of-requires-clause-settings : goal.net_of-requires-clause-settings
net_of-requires-clause-settings c = rw c.fit_settings.ensures (settings_fit c.args.fit.now c.requires.fit)

pub returns-in_err-net-clause-refused : goal.returns-in_err-net-clause-refused
returns-in_err-net-clause-refused c =
    let layout = c.layout-layout.ensures in
    handed _ _ (metric_fail_of c.in_err-net.field-0.0) c.from_residual.ensures.1 (rw (← layout.layout)
    (no_net c.args.fit.now.aim c.args.cut.now.soup c.args.wishes.now c.layout-layout.result.now
    (fit_settings c.args.fit.now) (rw layout.layout layout.laid.0) (rounds_if c.args.fit.now.auto)
    c.in_err-net.field-0.0 (rw c.fit_settings.ensures at c.in_err-net.ensures.tangled)))

-- The layout of the mesh.
there : (c : After-deref) → IsSomeLayout (layout_of c.layout-layout.result.now)
there c = rw c.layout-layout.ensures.layout c.layout-layout.ensures.laid.0

pub sums_of-requires-clause-few : goal.sums_of-requires-clause-few
sums_of-requires-clause-few c =
    omega (arith, ap length c.deref.ensures.value, few_arcs c.layout-layout.result.now (there c))

pub sums_of-requires-clause-short : goal.sums_of-requires-clause-short
sums_of-requires-clause-short c = rw c.deref.ensures.value (runs_short c.layout-layout.result.now (there c))

pub sums_of-requires-clause-inside : goal.sums_of-requires-clause-inside
sums_of-requires-clause-inside c = rw c.deref.ensures.value (runs_inside c.args.cut.now.soup.faces
    c.layout-layout.result.now c.args.cut.now.layout c.layout-layout.ensures.layout c.layout-layout.ensures.laid)

-- What the network near the old lengths, the sum of the wishes and their entries say.
found : (c : In_ok-sums) → AreFound c.args.fit.now.aim c.args.cut.now.soup c.args.wishes.now c.args.cut.now.layout
    (fit_settings c.args.fit.now) (network c.in_ok-net.net) c.in_ok-sums.sums.sum c.in_ok-sums.sums.wishes.items
found c = rw (← c.layout-layout.ensures.layout) (are_found c.args.fit.now.aim c.args.cut.now.soup c.args.wishes.now
    c.layout-layout.result.now (fit_settings c.args.fit.now) (rw c.layout-layout.ensures.layout
    c.layout-layout.ensures.laid.0) (rw c.fit_settings.ensures at c.in_ok-net.ensures.net) c.in_ok-net.ensures.small
    (rw c.deref.ensures.value at c.in_ok-sums.ensures.sum) (rw c.deref.ensures.value at c.in_ok-sums.ensures.wishes))

pub returns-then-sums-from-clause-refused : goal.returns-then-sums-from-clause-refused
returns-then-sums-from-clause-refused c = (found (goal.at.returns-then-sums-from-clause-refused c).In_ok-sums).far
    (rounds_if c.args.fit.now.auto) (omega (arith, c.if-sums-from.true, c.from.ensures))

pub returns-clause-near : goal.returns-clause-near
returns-clause-near c = (found (goal.at.returns-clause-near c).In_ok-sums).near
    (omega (arith, c.if-sums-from.false, c.from.ensures))

pub returns-clause-net : goal.returns-clause-net
returns-clause-net c = (found (goal.at.returns-clause-net c).In_ok-sums).net_is (network c.with_wishes.result)
    (omega (arith, c.if-sums-from.false, c.from.ensures)) c.requires.fit.floor.low c.in_ok-net.ensures.bounds
    (rw c.deref-2.ensures.value at c.with_wishes.ensures)

pub returns-clause-even : goal.returns-clause-even
returns-clause-even c p q scale = (found (goal.at.returns-clause-even c).In_ok-sums).even
    (network c.with_wishes.result) p q scale (returns-clause-net c) c.in_ok-net.ensures.even
