-- How much can still happen in a motion.
use Rattle.std.specs.Prelude.{ℕ, suc, ◌+◌, ◌*◌, ◌-◌, Bool, true, false, List, [], ◌∷◌, length}
use Rattle.def_mesh.specs.Darts.{darts}
use Rattle.def_mesh.specs.Faces.{Faces}
use Rattle.def_cut.specs.Events.{EventState, darts_in}
use Rattle.def_cut.specs.declared.moving.Moving.{Moving}

-- How many rides the riders have made.
abbrev pub rides_of : (riders : List Moving) → ℕ
rides_of [] = 0
rides_of (rider ∷ riders) = rider.rides + rides_of riders

-- How many marks are not set.
abbrev pub unset : (marks : List Bool) → ℕ
unset [] = 0
unset (true ∷ marks) = unset marks
unset (false ∷ marks) = suc (unset marks)

-- A bound of the settlings in the open instant, where these darts are noted.
abbrev pub left_in : (noted : List ℕ) (settled : List Bool) → ℕ
left_in [] settled = 0
left_in (d ∷ ds) settled = suc (unset settled)

-- A bound of all events that can still happen.
abbrev pub left_of : (faces : Faces) (x : EventState) → ℕ
left_of faces x =
    (darts faces - rides_of x.riders) * (length x.settled + 2) + left_in (darts_in x.noted) x.settled
