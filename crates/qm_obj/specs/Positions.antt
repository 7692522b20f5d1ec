-- The numbers of a `v` line.
use Rattle.std.specs.Prelude.{if◌then◌else◌, Option, Some, None, List, [], ◌∷◌}
use Rattle.def_text.specs.Decimal.{is_far, rounded}
use Rattle.def_text.specs.Types.{Position, Word}
use Rattle.qm_obj.specs.declared.position.Coordinate.{Coordinate}
use Rattle.qm_obj.specs.declared.position.Coordinate.TheVariants.{Near, Far}

-- A decimal as a coordinate.
abbrev pub coordinate : (word : Word) → Coordinate
coordinate word = if is_far (rounded word) then Far else Near (rounded word)

-- An element in front, where there is a list.
abbrev pub in_front : {X : Type 0} → (x : X) (xs : Option (List X)) → Option (List X)
in_front x None = None
in_front x (Some xs) = Some (x ∷ xs)

-- All coordinates, where none is out of range.
abbrev pub all_near : (coordinates : List Coordinate) → Option Position
all_near [] = Some []
all_near (Far ∷ rest) = None
all_near (Near z ∷ rest) = in_front z (all_near rest)
