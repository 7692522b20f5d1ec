-- Why a layout is not remeshed with edges of a given length.
use Rattle.std.specs.Prelude.{◌≡◌, ℕ, ◌<◌, ◌≤◌, ⊤}
use Rattle.def_certtext.specs.declared.certs.Rising.TheVariants.{Never}
use Rattle.def_flow.specs.declared.net.Settings.{Settings}
use Rattle.def_layout.specs.Layouts.{Layout}
use Rattle.def_layoutnet.specs.declared.NetFail.{NetFail}
use Rattle.def_layoutnet.specs.declared.NetFail.TheVariants as nets
use Rattle.def_remesh.specs.Refusals.{IsLayoutFail, IsTangledAt}
use Rattle.def_remesh.specs.Tasks.{Wish}
use Rattle.def_remesh.specs.declared.kept.LayoutFail.TheVariants as layouts
use Rattle.def_metric.specs.Targets.{edge_settings, wish_sum}
use Rattle.def_metric.specs.declared.fail.MetricFail.{MetricFail}
use Rattle.def_metric.specs.declared.fail.MetricFail.TheVariants.{Tangled, Far, Memory}
use Rattle.def_metric.specs.declared.fail.SizeFail.{SizeFail}
use Rattle.def_metric.specs.declared.fail.SizeFail.TheVariants as sizes
use Rattle.def_metric.specs.declared.limits.TheConstants.{MAX_TARGETS}

-- The targets add up to no more than the limit.
abbrev pub AreNear : (wish : Wish) (layout : Layout) → Type 0
AreNear wish layout = wish_sum wish layout ≤ MAX_TARGETS

-- They add up to this sum, which is too great, and their network is not too tangled.
pub record IsFar (wish : Wish) (layout : Layout) (settings : Settings) (sum : ℕ) : Type 0 where
  pub untangled : (count : ℕ) → ¬ IsTangledAt wish layout settings count
  pub told : sum ≡ wish_sum wish layout
  pub high : MAX_TARGETS < sum

-- A layout that has no network at all has none for them.
abbrev pub metric_fail_of : (fail : NetFail) → MetricFail
metric_fail_of (nets.Tangled count) = Tangled count
metric_fail_of nets.Memory = Memory

-- A layout that has none for them is not remeshed.
abbrev pub size_fail_of : (fail : MetricFail) → SizeFail
size_fail_of (Tangled count) = sizes.Layout (layouts.Tangled count)
size_fail_of (Far sum) = sizes.Far sum
size_fail_of Memory = sizes.Layout layouts.Memory

-- Why it is not remeshed: it has no network, or least lengths give too many faces or double an edge.
abbrev pub IsSizeFail : (wish : Wish) (layout : Layout) (floor : ℕ) (fail : SizeFail) → Type 0
IsSizeFail wish layout floor (sizes.Far sum) = IsFar wish layout (edge_settings floor) sum
IsSizeFail wish layout floor (sizes.Layout (layouts.Tangled count)) =
    IsTangledAt wish layout (edge_settings floor) count
IsSizeFail wish layout floor (sizes.Layout layouts.Memory) = ⊤
IsSizeFail wish layout floor (sizes.Layout failed) =
    AreNear wish layout × IsLayoutFail wish layout (edge_settings floor) Never failed
