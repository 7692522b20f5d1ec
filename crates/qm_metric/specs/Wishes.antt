-- The wish for an arc, and a network with other wishes.
use Rattle.std.specs.Prelude.{◌≡◌, ℕ, ◌<◌, ◌≤◌, List, length, slice_index_or, unsigned_abs}
use Rattle.def_fit.specs.declared.fit.Aim.{Aim}
use Rattle.def_fit.specs.declared.fit.Aim.TheVariants.{Scale, Edge, Wishes}
use Rattle.def_flow.specs.Network.{Network, arc_at}
use Rattle.def_flow.specs.declared.net.Arc.{Arc}
use Rattle.def_layout.specs.Lengths.{Lengths}
use Rattle.def_math.specs.Counts.{count}
use Rattle.def_metric.specs.Targets.{target_of}
use Rattle.def_metric.specs.declared.limits.TheConstants.{EDGE_PARTS}
use Rattle.def_text.specs.FaceSet.{FaceSet}

-- What is wished of an arc with these darts.
abbrev pub wish_along : (aim : Aim) (soup : FaceSet) (wishes path : List ℕ) → ℕ
wish_along (Scale p q) soup wishes path = length path
wish_along (Edge edge) soup wishes path = target_of soup.faces soup.pos (unsigned_abs edge) path
wish_along Wishes soup wishes path = count (λ d. slice_index_or wishes d EDGE_PARTS) path

-- An arc with another wish.
abbrev pub with_wish : (wish : ℕ) (arc : Arc) → Arc
with_wish wish arc = record arc { old = wish }

-- The first n arcs have these wishes, and the others are as they were.
pub record AreWished (n : ℕ) (wish : Lengths) (arcs new : List Arc) : Type 0 where
  pub long : length new ≡ length arcs
  pub done : (k : ℕ) → k < n → k < length arcs → arc_at new k ≡ with_wish (wish k) (arc_at arcs k)
  pub left : (k : ℕ) → n ≤ k → k < length arcs → arc_at new k ≡ arc_at arcs k

-- All arcs have these wishes, and nothing else is different.
pub record HasWishes (net : Network) (wish : Lengths) (new : Network) : Type 0 where
  pub nodes : new.nodes ≡ net.nodes
  pub p : new.p ≡ net.p
  pub q : new.q ≡ net.q
  pub long : length new.arcs ≡ length net.arcs
  pub arcs : (k : ℕ) → k < length net.arcs → arc_at new.arcs k ≡ with_wish (wish k) (arc_at net.arcs k)
