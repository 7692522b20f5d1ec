-- The motion of riders: one simultaneous step of the whole state after another.
use Rattle.std.specs.Prelude.{ℕ, zero, suc, ◌+◌, Bool, true, false, cond, not, ◌&&◌, ◌||◌}
use Rattle.std.specs.Prelude.{◌==◌, List, [], ◌∷◌, map, filter, Option, Some, None, option_map}
use Rattle.std.specs.List.{list_any}
use Rattle.def_mesh.specs.HalfEdges.{HalfEdges}
use Rattle.def_cut.specs.declared.graph.Stop.{Stop}
use Rattle.def_cut.specs.declared.graph.Stop.TheVariants.{Middle, Boundary, Singular, Trail, Tie}
use Rattle.def_cut.specs.declared.moving.Moving.{Moving}

-- Half edges, and of each vertex whether it lies at the boundary and whether it is singular.
pub record Terrain : Type 0 where
  pub half : HalfEdges
  pub boundary : (v : ℕ) → Bool
  pub singular : (v : ℕ) → Bool

-- The vertex where d ends.
abbrev pub end_of : (g : Terrain) (d : ℕ) → ℕ
end_of g d = g.half.from (g.half.next d)

-- The dart straight on from d, where there is one.
abbrev pub straight : (g : Terrain) (d : ℕ) → Option ℕ
straight g d = option_map g.half.next (g.half.twin (g.half.next d))

-- The riders, the vertices where one has stood, and the darts whose edges are covered.
pub record State : Type 0 where
  pub riders : List Moving
  pub stood : (v : ℕ) → Bool
  pub covered : (d : ℕ) → Bool

-- The darts of riders that run, in front of those of the later riders.
abbrev pub with_next : (stop : Option Stop) (d : ℕ) (later : List ℕ) → List ℕ
with_next None d ds = d ∷ ds
with_next (Some s) d ds = ds

-- The darts that the running riders ride in one step.
abbrev pub ridden : (riders : List Moving) → List ℕ
ridden [] = []
ridden (r ∷ rs) = with_next r.stop r.dart (ridden rs)

-- Whether d stands in a list.
abbrev pub is_among : (d : ℕ) (darts : List ℕ) → Bool
is_among d darts = list_any (λ e. d == e) darts

-- Whether there is a twin and it stands in a list.
abbrev pub is_found : (twin : Option ℕ) (darts : List ℕ) → Bool
is_found None darts = false
is_found (Some t) darts = is_among t darts

-- The rider by d is met in the middle of the edge: the twin of d is ridden too.
abbrev pub is_met : (g : Terrain) (darts : List ℕ) (d : ℕ) → Bool
is_met g darts d = is_found (g.half.twin d) darts

-- The rider by d arrives at v.
abbrev pub arrives_at : (g : Terrain) (darts : List ℕ) (v d : ℕ) → Bool
arrives_at g darts v d = (end_of g d == v) && not (is_met g darts d)

-- The darts of the riders that arrive at v.
abbrev pub arrivals : (g : Terrain) (darts : List ℕ) (v : ℕ) → List ℕ
arrivals g darts v = filter (arrives_at g darts v) darts

-- Whether there is a twin and it is e.
abbrev pub is_twin : (twin : Option ℕ) (e : ℕ) → Bool
is_twin None e = false
is_twin (Some t) e = t == e

-- Dart d gives way to e where the dart after e is the twin of d: then e comes from d's right.
abbrev pub gives_way : (g : Terrain) (d e : ℕ) → Bool
gives_way g d e = is_twin (g.half.twin d) (g.half.next e)

-- Of the riders that arrive at one vertex, whether the one by d goes on: alone, or where the only other gives way.
abbrev pub goes_on : (g : Terrain) (arrived : List ℕ) (d : ℕ) → Bool
goes_on g [] d = false
goes_on g (a ∷ []) d = true
goes_on g (a ∷ b ∷ []) d = ((d == b) && gives_way g a b) || ((d == a) && gives_way g b a)
goes_on g (a ∷ b ∷ c ∷ more) d = false

-- Why the rider by d stops, if it does. The first of these rules decides.
abbrev pub stop_of : (g : Terrain) (stood : ℕ → Bool) (darts : List ℕ) (d : ℕ) → Option Stop
stop_of g stood darts d =
    cond (is_met g darts d) (Some (Middle (g.half.from d) (end_of g d)))
    (cond (g.boundary (end_of g d)) (Some (Boundary (end_of g d)))
    (cond (g.singular (end_of g d)) (Some (Singular (end_of g d)))
    (cond (stood (end_of g d)) (Some (Trail (end_of g d)))
    (cond (goes_on g (arrivals g darts (end_of g d)) d) None (Some (Tie (end_of g d)))))))

-- What was found, or else this dart.
abbrev pub or_else : (found : Option ℕ) (d : ℕ) → ℕ
or_else None d = d
or_else (Some e) d = e

-- A rider after its ride along d: it has stopped, or goes straight on.
abbrev pub after_ride : (g : Terrain) (d rides : ℕ) (stop : Option Stop) → Moving
after_ride g d rides (Some s) = record { dart = d; rides = rides + 1; stop = Some s }
after_ride g d rides None = record { dart = or_else (straight g d) d; rides = rides + 1; stop = None }

-- A rider after a step, where `stop` says whether it had stopped before.
abbrev pub ride_on : (g : Terrain) (stood : ℕ → Bool) (darts : List ℕ) (r : Moving) (stop : Option Stop) → Moving
ride_on g stood darts r (Some s) = r
ride_on g stood darts r None = after_ride g r.dart r.rides (stop_of g stood darts r.dart)

-- A rider after a step.
abbrev pub ride : (g : Terrain) (stood : ℕ → Bool) (darts : List ℕ) (r : Moving) → Moving
ride g stood darts r = ride_on g stood darts r r.stop

-- All running riders ride at once. Who arrives at a vertex has stood there from then on.
abbrev pub step : (g : Terrain) (s : State) → State
step g s = record {
  riders = map (ride g s.stood (ridden s.riders)) s.riders;
  stood = λ v. s.stood v || list_any (arrives_at g (ridden s.riders) v) (ridden s.riders);
  covered = λ d. s.covered d || (is_among d (ridden s.riders) || is_met g (ridden s.riders) d);
}

-- A rider at the beginning.
abbrev pub begun : (d : ℕ) → Moving
begun d = record { dart = d; rides = 0; stop = None }

-- The first state: riders have stood where they start, and no edge is covered.
abbrev pub start : (g : Terrain) (starts : List ℕ) → State
start g starts = record {
  riders = map begun starts;
  stood = λ v. list_any (λ d. g.half.from d == v) starts;
  covered = λ d. false;
}

-- The state so many steps after this one.
abbrev pub later : (g : Terrain) (s : State) (steps : ℕ) → State
later g s zero = s
later g s (suc n) = step g (later g s n)

-- The state so many steps after the first.
abbrev pub after_steps : (g : Terrain) (starts : List ℕ) (steps : ℕ) → State
after_steps g starts n = later g (start g starts) n
