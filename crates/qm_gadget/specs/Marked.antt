-- Marks of the edges of a unit's second end, and of the edges at the rim.
use Rattle.std.specs.Prelude.{ℕ, Bool, true, false, cond, not, ◌&&◌, List, [], ◌∷◌, ◌++◌}
use Rattle.def_flow.specs.Units.{is_active}
use Rattle.def_flow.specs.MatchingGraph.{are_alike}
use Rattle.def_flow.specs.declared.net.End.{End}
use Rattle.gadget_laws.specs.Marks.{end_marks, differ}

-- The marks of the edges of a unit's second end, and of the edge inside it where the signs are alike.
abbrev pub right_marks : (ℕ → ℕ) → (ℕ → ℕ) → Bool → End → End → List Bool
right_marks copies_at used on left right =
    cond (are_alike left right) (end_marks copies_at used (is_active on right) right ++ not (is_active on left) ∷ [])
    (end_marks copies_at used (is_active on right) right)

-- The mark of an edge that may be missing.
abbrev pub mark_if : Bool → Bool → List Bool
mark_if true m = m ∷ []
mark_if false m = []

-- The marks of the edges at the rim, by whether there is a vertex before, and whether it waits for a mate.
abbrev pub rim_by : Bool → Bool → List Bool → List Bool
rim_by there waits [] = []
rim_by there waits (o ∷ []) = mark_if there (waits && o)
rim_by there waits (o ∷ p ∷ os) =
    mark_if there (waits && o)
    ++ ((not waits && o) ∷ mark_if there (waits && not o)
    ++ (not (differ waits o) ∷ rim_by true (differ waits o) (p ∷ os)))

-- The marks of the edges of one vertex at the rim and of the pair after it, if it is not the last.
abbrev pub turn_marks : Bool → Bool → Bool → Bool → List Bool
turn_marks there waits o true = mark_if there (waits && o)
turn_marks there waits o false =
    mark_if there (waits && o) ++ ((not waits && o) ∷ mark_if there (waits && not o) ++ not (differ waits o) ∷ [])
