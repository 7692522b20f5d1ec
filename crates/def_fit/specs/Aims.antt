-- What the new lengths of arcs aim at.
use Rattle.std.specs.Prelude.{◌≤◌, ◌≤ℤ◌, ℕ, List, pos, slice_index_or, unsigned_abs, ⊤}
use Rattle.def_certtext.specs.Settings.{IsFloor}
use Rattle.def_certtext.specs.declared.certs.Rising.{Rising}
use Rattle.def_flow.specs.declared.net.Settings.{Settings}
use Rattle.def_layout.specs.Arcs.{path_at}
use Rattle.def_layout.specs.Layouts.{Layout}
use Rattle.def_math.specs.Counts.{count}
use Rattle.def_metric.specs.Fails.{AreNear, IsFar}
use Rattle.def_metric.specs.Targets.{targets}
use Rattle.def_metric.specs.declared.fail.SizeFail.{SizeFail}
use Rattle.def_metric.specs.declared.fail.SizeFail.TheVariants as sizes
use Rattle.def_metric.specs.declared.limits.TheConstants.{EDGE_PARTS}
use Rattle.def_remesh.specs.Refusals.{IsLayoutFail, IsTangledAt}
use Rattle.def_remesh.specs.Tasks.{old_lengths, Wish}
use Rattle.def_remesh.specs.declared.kept.LayoutFail.TheVariants as layouts
use Rattle.def_text.specs.FaceSet.{FaceSet}
use Rattle.def_text.specs.declared.limits.TheConstants.{MAX_MICRO, MAX_PART}
use Rattle.def_fit.specs.declared.fit.Aim.{Aim}
use Rattle.def_fit.specs.declared.fit.Aim.TheVariants.{Scale, Edge, Wishes}
use Rattle.def_fit.specs.declared.fit.Fit.{Fit}

-- The wishes for the edges of an arc, added up. An edge for which nothing is wished counts as one.
abbrev pub wishes_along : (wishes : List ℕ) → Wish
wishes_along wishes layout arc = count (λ d. slice_index_or wishes d EDGE_PARTS) (path_at layout.arcs arc).darts

-- The lengths that are wished for, where each dart has one of these wishes.
abbrev pub aimed : (aim : Aim) (soup : FaceSet) (wishes : List ℕ) → Wish
aimed (Scale p q) soup wishes = old_lengths
aimed (Edge edge) soup wishes = targets soup.faces soup.pos (unsigned_abs edge)
aimed Wishes soup wishes = wishes_along wishes

-- Old lengths are scaled by p over q, all other wishes are in parts of an edge.
abbrev pub numerator : (aim : Aim) → ℕ
numerator (Scale p q) = p
numerator _ = 1

abbrev pub denominator : (aim : Aim) → ℕ
denominator (Scale p q) = q
denominator _ = EDGE_PARTS

-- The settings of the network.
abbrev pub fit_settings : (fit : Fit) → Settings
fit_settings fit = record {
  p = numerator fit.aim;
  q = denominator fit.aim;
  floor = fit.floor;
  weight = fit.weight;
}

-- Wishes in parts of an edge add up to no more than the limit. Old lengths always do.
abbrev pub AreAimedNear : (aim : Aim) (wish : Wish) (layout : Layout) → Type 0
AreAimedNear (Scale p q) wish layout = ⊤
AreAimedNear _ wish layout = AreNear wish layout

-- An aim that may be asked for.
abbrev pub IsAim : (aim : Aim) → Type 0
IsAim (Scale p q) = (1 ≤ p) × (p ≤ MAX_PART) × (1 ≤ q) × (q ≤ MAX_PART)
IsAim (Edge edge) = (pos 1 ≤ℤ edge) × (unsigned_abs edge ≤ MAX_MICRO)
IsAim Wishes = ⊤

-- A fit that may be asked for.
pub record IsFit (fit : Fit) : Type 0 where
  pub aim : IsAim fit.aim
  pub floor : IsFloor fit.floor fit.auto

-- Why a layout is not remeshed with these wishes: want of memory says nothing of them.
abbrev pub IsFitFail :
    (aim : Aim) (wish : Wish) (layout : Layout) (settings : Settings) (rising : Rising) (fail : SizeFail) → Type 0
IsFitFail aim wish layout settings rising (sizes.Far sum) =
    (¬ AreAimedNear aim wish layout) × IsFar wish layout settings sum
IsFitFail aim wish layout settings rising (sizes.Layout (layouts.Tangled count)) =
    IsTangledAt wish layout settings count
IsFitFail aim wish layout settings rising (sizes.Layout layouts.Memory) = ⊤
IsFitFail aim wish layout settings rising (sizes.Layout failed) =
    AreAimedNear aim wish layout × IsLayoutFail wish layout settings rising failed
