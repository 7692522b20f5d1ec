-- The perfect matching that states of the units tell: a mark for each edge of the graph.
use Rattle.std.specs.Prelude.{ℕ, zero, suc, ◌+◌, Bool, true, false, cond, not, ◌&&◌, ◌==◌, List, [], ◌∷◌, ◌++◌, Option}
use Rattle.std.specs.Prelude.{Some, None}
use Rattle.def_math.specs.Counts.{count}
use Rattle.def_flow.specs.Units.{is_active, active_at}
use Rattle.def_flow.specs.MatchingGraph.{are_alike, first_fresh, lone_vertex}
use Rattle.def_flow.specs.declared.net.End.{End}
use Rattle.def_flow.specs.declared.units.ArcUnit.{ArcUnit}

-- How many marks there are.
abbrev pub trues : List Bool → ℕ
trues ms = count (λ m. cond m 1 0) ms

-- Marks for n edges: the one at place i, if any.
abbrev pub choice : Bool → ℕ → ℕ → List Bool
choice some i zero = []
choice some zero (suc n) = some ∷ choice false zero n
choice some (suc i) (suc n) = false ∷ choice some i n

-- What is marked, and what is not marked left out.
abbrev pub keep : {X : Type 0} → Bool → X → List X → List X
keep true x xs = x ∷ xs
keep false x xs = xs

-- The places of the marks, from k on.
abbrev pub places : ℕ → List Bool → List ℕ
places k [] = []
places k (m ∷ ms) = keep m k (places (k + 1) ms)

-- The copies in use once an end has taken one, where it is active.
abbrev pub take_end : (ℕ → ℕ) → Bool → End → ℕ → ℕ
take_end used some e v = used v + cond ((e.node == v) && some) 1 0

-- An active end takes the first copy that is not in use.
abbrev pub end_marks : (ℕ → ℕ) → (ℕ → ℕ) → Bool → End → List Bool
end_marks copies_at used some e = choice some (used e.node) (copies_at e.node)

-- The marks of a unit's edges.
abbrev pub marks_by : (ℕ → ℕ) → (ℕ → ℕ) → Bool → End → Option End → List Bool
marks_by copies_at used on left None = end_marks copies_at used (is_active on left) left ++ not (is_active on left) ∷ []
marks_by copies_at used on left (Some right) = cond (are_alike left right)
    (end_marks copies_at used (is_active on left) left
    ++ (end_marks copies_at (take_end used (is_active on left) left) (is_active on right) right
    ++ not (is_active on left) ∷ []))
    (end_marks copies_at used (is_active on left) left
    ++ end_marks copies_at (take_end used (is_active on left) left) (is_active on right) right)

-- The marks of all units' edges, where so many copies are in use before.
abbrev pub units_marks : (ℕ → ℕ) → (ℕ → ℕ) → List ArcUnit → List Bool → List Bool
units_marks copies_at used (u ∷ us) (on ∷ ons) =
    marks_by copies_at used on u.left u.right ++ units_marks copies_at (λ v. used v + active_at v u on) us ons
units_marks copies_at used _ _ = []

-- The states of the units at the rim: whether each waits for a mate there.
abbrev pub with_state : Option End → Bool → List Bool → List Bool
with_state None o os = o ∷ os
with_state (Some _) o os = os

abbrev pub rim_states : List ArcUnit → List Bool → List Bool
rim_states (u ∷ us) (on ∷ ons) = with_state u.right (is_active on u.left) (rim_states us ons)
rim_states _ _ = []

-- Whether two marks differ.
abbrev pub differ : Bool → Bool → Bool
differ a b = cond a (not b) b

-- The mark of an edge that may be missing.
abbrev pub mark_from : Option ℕ → Bool → List Bool
mark_from None m = []
mark_from (Some _) m = m ∷ []

-- The marks of the edges at the rim. `waits` says that the vertex before is there and has no mate yet.
abbrev pub rim_marks : Option ℕ → Bool → ℕ → List Bool → List Bool
rim_marks before waits fresh [] = []
rim_marks before waits fresh (o ∷ []) = mark_from before (waits && o)
rim_marks before waits fresh (o ∷ p ∷ os) =
    mark_from before (waits && o)
    ++ ((not waits && o) ∷ mark_from before (waits && not o)
    ++ (not (differ waits o) ∷ rim_marks (Some (fresh + 1)) (differ waits o) (fresh + 2) (p ∷ os)))

-- The marks of all edges of the graph.
abbrev pub states_marks : ℕ → (ℕ → ℕ) → Bool → List ArcUnit → List Bool → List Bool
states_marks nodes copies_at lone us ons =
    units_marks copies_at (λ v. 0) us ons
    ++ rim_marks (lone_vertex nodes copies_at lone us) lone (first_fresh nodes copies_at lone us) (rim_states us ons)
