-- Two laws of networks: what the difference of two lists contains, and how near a better list is.
use Rattle.std.specs.Prelude.{◌≢◌, ℕ, ◌<◌, ◌≤◌, ◌⊎◌, length, ℤ, pos, ◌-ℤ◌, ◌≤ℤ◌, unsigned_abs}
use Rattle.def_flow.specs.Network.{Network, ArcNumber}
use Rattle.def_flow.specs.Admissible.{WholeLengths, IsAdmissible, IsBalanced, deviation}

-- A change is part of a difference: of the same sign, and not larger.
abbrev pub IsPart : (change difference : ℤ) → Type 0
IsPart change difference =
    ((pos 0 ≤ℤ change) × (change ≤ℤ difference)) ⊎ ((difference ≤ℤ change) × (change ≤ℤ pos 0))

-- A small balanced part of the difference between two lists, not zero.
pub record IsSmallPart (net : Network) (x other change : WholeLengths) : Type 0 where
  pub part : (k : ArcNumber) → k < length net.arcs → IsPart (change k) (other k -ℤ x k)
  pub small : (k : ArcNumber) → k < length net.arcs → unsigned_abs (change k) ≤ 2
  pub balanced : IsBalanced net.arcs change
  pub place : ArcNumber
  pub within : place < length net.arcs
  pub nonzero : change place ≢ pos 0

-- The walk law: the difference of two admissible lists contains a small balanced change.
abbrev pub WalkLaw : Type 0
WalkLaw = (net : Network) (x other : WholeLengths) (k : ArcNumber)
    → IsAdmissible net x → IsAdmissible net other → k < length net.arcs → x k ≢ other k
    → (change : WholeLengths) × IsSmallPart net x other change

-- A list differs from another by at most 2 in each entry.
abbrev pub IsNear : (net : Network) (x near : WholeLengths) → Type 0
IsNear net x near = (k : ArcNumber) → k < length net.arcs → unsigned_abs (near k -ℤ x k) ≤ 2

-- The lift law: a list that is not least has a better one near.
abbrev pub LiftLaw : Type 0
LiftLaw = (net : Network) (x other : WholeLengths)
    → IsAdmissible net x → IsAdmissible net other → deviation net other < deviation net x
    → (near : WholeLengths) × IsAdmissible net near × IsNear net x near × (deviation net near < deviation net x)
