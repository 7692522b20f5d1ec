-- Lists of lengths that a network admits, and how far they are from what is wanted.
use Rattle.std.specs.Prelude.{◌≡◌, ℕ, ◌*◌, ◌<◌, ◌≤◌, Bool, true, false, cond, not, ◌&&◌, ◌==◌, List, length}
use Rattle.std.specs.Prelude.{slice_index, slice_index_or, ℤ, pos, ◌-ℤ◌, ◌*ℤ◌, ◌≤ℤ◌, unsigned_abs}
use Rattle.def_math.specs.Counts.{count, count_below}
use Rattle.def_math.specs.Sums.{total, total_below}
use Rattle.def_flow.specs.Network.{Network, Node, ArcNumber, ends, arc_at}
use Rattle.def_flow.specs.declared.limits.TheConstants.{MAX_LENGTH, MAX_SUM}
use Rattle.def_flow.specs.declared.net.Arc.{Arc}
use Rattle.def_flow.specs.declared.net.End.{End}

-- A length for each arc: any whole number, so that the statements speak of all lists.
abbrev pub WholeLengths : Type 0
WholeLengths = ArcNumber → ℤ

-- The entries of a list of lengths.
abbrev pub entries : (xs : List ℕ) → WholeLengths
entries xs k = pos (slice_index_or xs k 0)

-- One length for each arc, none above the greatest.
pub record AreNetLengths (arcs : List Arc) (xs : List ℕ) : Type 0 where
  pub count : length xs ≡ length arcs
  pub small : (k : ℕ) → k < length xs → slice_index xs k ≤ MAX_LENGTH

-- Whether an end is at node v, on its plus side or on its minus side.
abbrev pub is_on_side : (v : Node) (plus : Bool) (e : End) → Bool
is_on_side v plus e = (e.node == v) && cond plus e.plus (not e.plus)

-- The sum of the entries at the ends on one side of node v; an arc with both ends there counts twice.
abbrev pub side_sum : (arcs : List Arc) (x : WholeLengths) (plus : Bool) (v : Node) → ℤ
side_sum arcs x plus v =
    total_below (λ k. total (λ e. cond (is_on_side v plus e) (x k) (pos 0)) (ends (arc_at arcs k))) (length arcs)

-- Equal sums on both sides of each node.
abbrev pub IsBalanced : (arcs : List Arc) (x : WholeLengths) → Type 0
IsBalanced arcs x = (v : Node) → side_sum arcs x true v ≡ side_sum arcs x false v

-- An admissible list: each entry is at least its arc's floor, and both sides of each node have equal sums.
pub record IsAdmissible (net : Network) (x : WholeLengths) : Type 0 where
  pub high : (k : ArcNumber) → k < length net.arcs → pos (arc_at net.arcs k).floor ≤ℤ x k
  pub balanced : IsBalanced net.arcs x

-- How far an arc of length y is from what is wanted.
abbrev pub arc_deviation : (net : Network) (a : Arc) (y : ℤ) → ℕ
arc_deviation net a y = a.weight * unsigned_abs (pos net.q *ℤ y -ℤ pos (net.p * a.old))

-- How far a list is from what is wanted.
abbrev pub deviation : (net : Network) (x : WholeLengths) → ℕ
deviation net x = count_below (λ k. arc_deviation net (arc_at net.arcs k) (x k)) (length net.arcs)

-- A least list: among all admissible lists of whole numbers of any size, none has a smaller deviation.
pub record IsLeast (net : Network) (x : WholeLengths) : Type 0 where
  pub admissible : IsAdmissible net x
  pub least : (other : WholeLengths) → IsAdmissible net other → deviation net x ≤ deviation net other

-- An even network: its old lengths are a balanced list of small numbers from 1 on.
pub record IsEven (net : Network) : Type 0 where
  pub high : (k : ArcNumber) → k < length net.arcs → 1 ≤ (arc_at net.arcs k).old
  pub small : count (λ a. a.old) net.arcs ≤ MAX_SUM
  pub balanced : IsBalanced net.arcs (λ k. pos (arc_at net.arcs k).old)
