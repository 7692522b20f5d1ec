-- Counts of active ends, one unit at a time.
use Rattle.std.proofs.Common.{rules, ◌≡◌, ℕ, zero, suc, ◌+◌, ◌*◌, ◌<◌, ◌≤◌, ◌==◌, Bool, false, ◌&&◌, List, ◌∷◌, length}
use Rattle.std.proofs.{Common.take, Common.None, Common.pos, Common.arith, lemmas.List.get_or_past}
use Rattle.std.specs.Prelude.{slice_index, slice_index_or}
use Rattle.def_flow.specs.{Units.is_active, Units.active_at, Units.active, declared.units.ArcUnit.ArcUnit}
use Rattle.{def_math.specs.Tables.IsRaised, qm_gadget.specs.Layout.IsAtNodes, sum_laws.proofs.Tests.once_at_most}

-- Past the last unit stands this one.
abbrev pub no_unit : ArcUnit
no_unit = record { left = record { node = 0; plus = false }; right = None; cost = pos 0 }

-- Functions that agree everywhere are equal.
pub same_everywhere : {X : Type 0} (f g : ℕ → X) → ((v : ℕ) → f v ≡ g v) → f ≡ g
same_everywhere f g same = λ i. λ v. same v i

-- A unit has at most two active ends at a node.
pub active_at_low : (v : ℕ) (u : ArcUnit) (on : Bool) → active_at v u on ≤ 2
active_at_low v u on = grind (arith, once_at_most ((u.left.node == v) && is_active on u.left))

-- There are at most two active ends for each unit.
pub active_low : (v : ℕ) (us : List ArcUnit) (ons : List Bool) → active v us ons ≤ 2 * length us
active_low v (u ∷ us) (on ∷ ons) = omega (arith, active_at_low v u on, active_low v us ons)
active_low v _ _ = omega arith

-- One unit more.
pub active_more : (v : ℕ) (us : List ArcUnit) (ons : List Bool) (k : ℕ) (u : ArcUnit) (b : Bool) → k < length us
    → length us ≡ length ons → active v (take (k + 1) us) (take (k + 1) ons) ≡ active v (take k us) (take k ons)
    + active_at v (slice_index_or us k u) (slice_index_or ons k b)
active_more v (w ∷ us) (o ∷ ons) zero u b l same = omega arith
active_more v (w ∷ us) (o ∷ ons) (suc k) u b l same = let next : suc k + 1 ≡ suc (k + 1) = omega arith in
    rw next (omega (arith, active_more v us ons k u b (omega arith) (omega arith)))
active_more v _ _ k u b l same = absurd (omega arith)

-- A table with the active ends of a unit added, at each number, also past the nodes.
pub raised_read : (u : ArcUnit) (on : Bool) (nodes : ℕ) (old new : List ℕ) → length old ≡ nodes → IsAtNodes nodes u
    → IsRaised (λ v. active_at v u on) old new → (v : ℕ) → slice_index new v ≡ slice_index old v + active_at v u on
raised_read u on nodes old new long at raised v = search (rules, get_or_past)
