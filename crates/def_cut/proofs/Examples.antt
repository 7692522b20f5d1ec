-- The motion, computed on small meshes.
use Rattle.std.proofs.Common.{◌≡◌, ℕ, zero, suc, List, [], ◌∷◌, map, Option, Some, None, refl, true, false, reverse}
use Rattle.def_cut.specs.{declared.moving.Moving.Moving, declared.graph.Stop.Stop}
use Rattle.def_cut.specs.declared.graph.Stop.TheVariants.{Boundary, Tie}
use Rattle.def_cut.specs.Traced.{terrain_of, last_state, end_state}
use Rattle.def_cut.specs.Events.{EventState, may_ride, may_settle, after_ride_of, after_settling, first_event_state}
use Rattle.{std.specs.List.range_with_len, def_mesh.specs.Faces.Faces, def_mesh.specs.Components.start_darts}

-- A square with two notches.
abbrev notched : Faces
notched =
    (0 ∷ 1 ∷ 6 ∷ 5 ∷ []) ∷
    (1 ∷ 2 ∷ 7 ∷ 6 ∷ []) ∷
    (2 ∷ 3 ∷ 8 ∷ 7 ∷ []) ∷
    (4 ∷ 5 ∷ 10 ∷ 9 ∷ []) ∷
    (5 ∷ 6 ∷ 11 ∷ 10 ∷ []) ∷
    (6 ∷ 7 ∷ 12 ∷ 11 ∷ []) ∷
    (7 ∷ 8 ∷ 13 ∷ 12 ∷ []) ∷
    (9 ∷ 10 ∷ 15 ∷ 14 ∷ []) ∷
    (10 ∷ 11 ∷ 16 ∷ 15 ∷ []) ∷
    (11 ∷ 12 ∷ 17 ∷ 16 ∷ []) ∷
    (12 ∷ 13 ∷ 18 ∷ 17 ∷ []) ∷
    (14 ∷ 15 ∷ 20 ∷ 19 ∷ []) ∷
    (15 ∷ 16 ∷ 21 ∷ 20 ∷ []) ∷
    (16 ∷ 17 ∷ 22 ∷ 21 ∷ []) ∷ []

-- Each reflex vertex sends a rider along each of its two inner edges.
notched_starts : map (terrain_of notched).half.from (start_darts notched) ≡ 5 ∷ 5 ∷ 17 ∷ 17 ∷ []
notched_starts = refl

-- How many darts the riders rode, and why they stopped.
abbrev rides : (riders : List Moving) → List ℕ
rides riders = map (λ (r : Moving). r.rides) riders

abbrev stops : (riders : List Moving) → List (Option Stop)
stops riders = map (λ (r : Moving). r.stop) riders

-- Two pairs of riders arrive at one vertex each, at right angles: the one on the left gives way.
abbrev notched_stops : List (Option Stop)
notched_stops = Some (Tie 15) ∷ Some (Boundary 8) ∷ Some (Boundary 14) ∷ Some (Tie 7) ∷ []

notched_end : rides (last_state notched).riders ≡ 2 ∷ 3 ∷ 3 ∷ 2 ∷ []
notched_end = refl

notched_why : stops (last_state notched).riders ≡ notched_stops
notched_why = refl

-- In each instant first the riders ride, in the order of one list, and then vertices are settled, in that of another.
abbrev ride_each : (x : EventState) (riders : List ℕ) → EventState
ride_each x [] = x
ride_each x (r ∷ rs) = ride_each
    (elim (may_ride x r) as (λ b. EventState) [ true ↦ after_ride_of (terrain_of notched) x r | false ↦ x ]) rs

abbrev settle_each : (x : EventState) (vertices : List ℕ) → EventState
settle_each x [] = x
settle_each x (v ∷ vs) =
    settle_each (elim (may_settle (terrain_of notched) x v) as (λ b. EventState)
    [ true ↦ after_settling (terrain_of notched) x v | false ↦ x ]) vs

abbrev instant : (x : EventState) (riders vertices : List ℕ) → EventState
instant x rs vs = settle_each (ride_each x rs) vs

abbrev instants : (x : EventState) (riders vertices : List ℕ) (many : ℕ) → EventState
instants x rs vs zero = x
instants x rs vs (suc n) = instants (instant x rs vs) rs vs n

-- Both orders lead to the same end.
increasing : stops (instants (first_event_state notched) (range_with_len 0 4) (range_with_len 0 23) 3).riders
    ≡ notched_stops
increasing = refl

falling : stops (instants (first_event_state notched) (reverse (range_with_len 0 4)) (reverse (range_with_len 0 23))
    3).riders ≡ notched_stops
falling = refl

falling_rides : rides (instants (first_event_state notched) (reverse (range_with_len 0 4))
    (reverse (range_with_len 0 23)) 3).riders ≡ 2 ∷ 3 ∷ 3 ∷ 2 ∷ []
falling_rides = refl

-- After the rides of riders 0 and 1 alone nobody may ride again, and nothing may be settled yet.
abbrev two_rides : EventState
two_rides = ride_each (first_event_state notched) (0 ∷ 1 ∷ [])

not_twice : map (may_ride two_rides) (0 ∷ 1 ∷ 2 ∷ 3 ∷ []) ≡ false ∷ false ∷ true ∷ true ∷ []
not_twice = refl

not_yet : may_settle (terrain_of notched) two_rides 10 ≡ false
not_yet = refl

-- In the second instant, after vertex 15 alone is settled, rider 0 has its stop and rider 1 has none yet.
abbrev one_settled : EventState
one_settled = settle_each (ride_each (instants (first_event_state notched) (range_with_len 0 4) (range_with_len 0 23) 1)
    (range_with_len 0 4)) (15 ∷ [])

half_way : stops one_settled.riders ≡ Some (Tie 15) ∷ None ∷ None ∷ None ∷ []
half_way = refl

half_way_rides : rides one_settled.riders ≡ 2 ∷ 2 ∷ 2 ∷ 2 ∷ []
half_way_rides = refl

-- A torus of four by four faces, with the start darts of its seed.
abbrev torus : Faces
torus =
    (0 ∷ 1 ∷ 5 ∷ 4 ∷ []) ∷
    (1 ∷ 2 ∷ 6 ∷ 5 ∷ []) ∷
    (2 ∷ 3 ∷ 7 ∷ 6 ∷ []) ∷
    (3 ∷ 0 ∷ 4 ∷ 7 ∷ []) ∷
    (4 ∷ 5 ∷ 9 ∷ 8 ∷ []) ∷
    (5 ∷ 6 ∷ 10 ∷ 9 ∷ []) ∷
    (6 ∷ 7 ∷ 11 ∷ 10 ∷ []) ∷
    (7 ∷ 4 ∷ 8 ∷ 11 ∷ []) ∷
    (8 ∷ 9 ∷ 13 ∷ 12 ∷ []) ∷
    (9 ∷ 10 ∷ 14 ∷ 13 ∷ []) ∷
    (10 ∷ 11 ∷ 15 ∷ 14 ∷ []) ∷
    (11 ∷ 8 ∷ 12 ∷ 15 ∷ []) ∷
    (12 ∷ 13 ∷ 1 ∷ 0 ∷ []) ∷
    (13 ∷ 14 ∷ 2 ∷ 1 ∷ []) ∷
    (14 ∷ 15 ∷ 3 ∷ 2 ∷ []) ∷
    (15 ∷ 12 ∷ 0 ∷ 3 ∷ []) ∷ []

torus_stops : stops (end_state (terrain_of torus) 16 (0 ∷ 13 ∷ 51 ∷ 62 ∷ [])).riders ≡ Some (Tie 2) ∷ Some (Tie 8)
    ∷ Some (Tie 8) ∷ Some (Tie 2) ∷ []
torus_stops = refl
