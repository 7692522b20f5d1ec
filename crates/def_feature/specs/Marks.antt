-- Edges that are marked, told by a mark for each dart, and the vertices where marked lines break.
use Rattle.std.specs.Prelude.{◌≡◌, ℕ, zero, suc, ◌<◌, Bool, true, false, not, ◌&&◌, ◌||◌, nat_lt, List, length, Option}
use Rattle.std.specs.Prelude.{Some, None}
use Rattle.std.specs.List.{list_any}
use Rattle.def_mesh.specs.Faces.{Faces}
use Rattle.def_mesh.specs.Darts.{darts, from_of, twin_of, straight_of}
use Rattle.def_mesh.specs.Vertices.{fan_of}
use Rattle.def_runs.specs.Runs.{is_passed, follower}
use Rattle.def_cut.specs.FullCut.{is_on}

-- A mark for each dart, equal at twins. No boundary edge is marked.
pub record AreMarks (faces : Faces) (marks : List Bool) : Type 0 where
  pub long : length marks ≡ darts faces
  pub alike : (d e : ℕ) → d < darts faces → twin_of faces d ≡ Some e → is_on marks e ≡ is_on marks d
  pub inner : (d : ℕ) → d < darts faces → twin_of faces d ≡ None → is_on marks d ≡ false

-- Some edge at v is marked.
abbrev pub is_touched : (faces : Faces) (marks : List Bool) (v : ℕ) → Bool
is_touched faces marks v = list_any (is_on marks) (fan_of faces v)

-- Whether a dart was found and is marked.
abbrev pub is_found_on : (found : Option ℕ) (marks : List Bool) → Bool
is_found_on None marks = false
is_found_on (Some d) marks = is_on marks d

-- Whether this dart, the twin of one that leaves a vertex, and the one straight on from it are marked.
abbrev pub goes_through : (faces : Faces) (marks : List Bool) (twin : Option ℕ) → Bool
goes_through faces marks None = false
goes_through faces marks (Some t) = is_on marks t && is_found_on (straight_of faces t) marks

-- Two opposite edges at v are marked.
abbrev pub is_crossed : (faces : Faces) (marks : List Bool) (v : ℕ) → Bool
is_crossed faces marks v = list_any (λ d. goes_through faces marks (twin_of faces d)) (fan_of faces v)

-- From d so many steps lead straight on over marked darts, of which none leaves a vertex below v.
abbrev pub goes_round : (faces : Faces) (marks : List Bool) (v steps d : ℕ) → Bool
goes_round faces marks v zero d = true
goes_round faces marks v (suc n) d = (is_on marks d && not (nat_lt (from_of faces d) v))
    && elim (follower faces d) as (λ o. Bool) [ None ↦ false | Some e ↦ goes_round faces marks v n e ]

-- Vertex v is the least of a closed run whose edges are all marked: after as many steps as there are darts one has come
-- round.
abbrev pub is_least_in_ring : (faces : Faces) (marks : List Bool) (v : ℕ) → Bool
is_least_in_ring faces marks v = list_any (goes_round faces marks v (darts faces)) (fan_of faces v)

-- Marked lines break at v: it is inner and regular, and some edge there is marked but no two opposite ones, or it is
-- the least vertex of a closed run whose edges are all marked.
abbrev pub is_break : (faces : Faces) (marks : List Bool) (v : ℕ) → Bool
is_break faces marks v = is_passed faces v
    && ((is_touched faces marks v && not (is_crossed faces marks v)) || is_least_in_ring faces marks v)
