-- Ports: the effects that a copy of an arc has on the balances at its ends.
use Rattle.std.proofs.Common.{rules, ◌≡◌, ℕ, Bool, true, false, cond, not, ◌&&◌, ◌==◌, Option, Some, None, ℤ, pos, ◌+ℤ◌}
use Rattle.std.proofs.Common.{◌≤ℤ◌, ◌<ℤ◌, neg_ℤ, refl, eq-eqb}
use Rattle.sum_laws.proofs.Sums.{integers}

-- An effect on the balance of a node: it rises, or it falls.
pub record Port : Type 0 where
  pub node : ℕ
  pub up : Bool

-- The same node, and the other effect.
abbrev pub opposite : Option Port → Option Port
opposite None = None
opposite (Some q) = Some (record { node = q.node; up = not q.up })

-- What m copies of the effect q are for the effect p.
abbrev pub weigh : Port → Option Port → ℤ → ℤ
weigh p None m = pos 0
weigh p (Some q) m = cond (q.node == p.node) (cond p.up (cond q.up m (neg_ℤ m)) (cond q.up (neg_ℤ m) m)) (pos 0)

-- Whether two ports, or free ends, are one.
abbrev pub is_same : Option Port → Option Port → Bool
is_same None None = true
is_same None (Some q) = false
is_same (Some p) None = false
is_same (Some p) (Some q) = (q.node == p.node) && cond p.up q.up (not q.up)

-- The opposite effect weighs the opposite.
pub weigh_opposite : (p : Port) (q : Option Port) (m : ℤ) → weigh p (opposite q) m ≡ neg_ℤ (weigh p q m)
weigh_opposite p None m = refl
weigh_opposite p (Some q) m = grind integers

-- Copies together weigh what they weigh one by one.
pub weigh_sum : (p : Port) (q : Option Port) (m n : ℤ) → weigh p q (m +ℤ n) ≡ weigh p q m +ℤ weigh p q n
weigh_sum p None m n = refl
weigh_sum p (Some q) m n = grind integers

-- No copy weighs nothing.
pub weigh_none : (p : Port) (q : Option Port) → weigh p q (pos 0) ≡ pos 0
weigh_none p None = refl
weigh_none p (Some q) = grind integers

-- An effect weighs 1 for itself.
pub weigh_self : (p : Port) → weigh p (Some p) (pos 1) ≡ pos 1
weigh_self p = rw (eq-eqb p.node p.node refl) (grind integers)

-- Another effect weighs nothing or less.
pub weigh_other : (p : Port) (q : Option Port) → is_same (Some p) q ≡ false → weigh p q (pos 1) ≤ℤ pos 0
weigh_other p None e = omega integers
weigh_other p (Some q) e = grind integers

-- What weighs less than nothing is the opposite effect.
pub weigh_low : (p : Port) (q : Option Port) (m : ℤ) → pos 0 ≤ℤ m → weigh p q m <ℤ pos 0 → (opposite q ≡ Some p)
    × (pos 0 <ℤ m)
weigh_low p q h1 h2 = search rules
