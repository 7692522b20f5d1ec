-- Balances of the nodes of a block: what counts on the plus side less what counts on the minus side.
use Rattle.std.specs.Prelude.{◌≡◌, ℕ, ◌+◌, ◌-◌, ◌*◌, ◌^◌, ◌<◌, ◌≤◌, Bool, true, false, ◌&&◌, nat_le, nat_lt}
use Rattle.std.specs.Prelude.{if◌then◌else◌, List, length, Option, Some, None, ℤ, pos, ◌+ℤ◌, ◌-ℤ◌, neg_ℤ, cond}
use Rattle.std.specs.Prelude.{unsigned_abs, slice_index, slice_index_or, slice_set}
use Rattle.def_math.specs.Sums.{total, total_below}
use Rattle.def_flow.specs.Network.{arc_at, ends}
use Rattle.def_flow.specs.Admissible.{entries, is_on_side, side_sum}
use Rattle.def_flow.specs.declared.net.Arc.{Arc}
use Rattle.def_flow.specs.declared.net.End.{End}

-- A length on the plus side, or its negative on the minus side.
abbrev pub signed : Bool → ℕ → ℤ
signed plus x = if plus then pos x else neg_ℤ (pos x)

-- The balances with a length weighed at an end, if its node is in the block.
abbrev pub weighed : ℕ → End → ℕ → List ℤ → List ℤ
weighed first e x bs =
    if nat_le first e.node && nat_lt (e.node - first) (length bs)
    then slice_set bs (e.node - first) (slice_index_or bs (e.node - first) (pos 0) +ℤ signed e.plus x)
    else bs

-- The same at an end that may be missing.
abbrev pub weighed_right : ℕ → Option End → ℕ → List ℤ → List ℤ
weighed_right first None x bs = bs
weighed_right first (Some e) x bs = weighed first e x bs

-- The balances with the length of an arc weighed at its ends.
abbrev pub weighed_arc : ℕ → Arc → ℕ → List ℤ → List ℤ
weighed_arc first a x bs = weighed_right first a.right x (weighed first a.left x bs)

-- What the first k arcs put on one side of a node.
abbrev pub side_so_far : List Arc → List ℕ → Bool → ℕ → ℕ → ℤ
side_so_far arcs xs plus v k =
    total_below (λ i. total (λ e. cond (is_on_side v plus e) (entries xs i) (pos 0)) (ends (arc_at arcs i))) k

-- The balances of the nodes of a block by the first k arcs.
pub record AreBalances (arcs : List Arc) (xs : List ℕ) (first k : ℕ) (bs : List ℤ) : Type 0 where
  pub count : length bs ≡ 2048
  pub each : (j : ℕ) → j < 2048
      → slice_index_or bs j (pos 0) ≡ side_so_far arcs xs true (first + j) k -ℤ side_so_far arcs xs false (first + j) k
  pub small : (j : ℕ) → unsigned_abs (slice_index_or bs j (pos 0)) ≤ k * (2 * 10 ^ 12)

-- Equal sums on both sides of each node of a block.
abbrev pub IsBlockBalanced : List Arc → List ℕ → ℕ → ℕ → Type 0
IsBlockBalanced arcs xs first end =
    (v : ℕ) → first ≤ v → v < end → side_sum arcs (entries xs) true v ≡ side_sum arcs (entries xs) false v

-- Each length is at least the floor of its arc.
abbrev pub AreHigh : (arcs : List Arc) (xs : List ℕ) → Type 0
AreHigh arcs xs = (k : ℕ) → k < length arcs → (arc_at arcs k).floor ≤ slice_index xs k
