-- How the darts of a face list find their twins, vertex by vertex.
use Rattle.std.specs.Prelude.{◌≡◌, ◌≢◌, ◌⊎◌, ℕ, ◌<◌, ◌≤◌, List, length, slice_index, slice_set, Option, Some, None}
use Rattle.def_mesh.specs.Faces.{Faces}
use Rattle.def_mesh.specs.Darts.{darts, prev_of, from_of, to_of, IsTwin}
use Rattle.def_mesh.specs.Manifold.{IsSameEdge}
use Rattle.qm_mesh.specs.declared.twins.Doubled.{Doubled}

-- Dart t is the partner of e: its twin, or e itself where e has none.
abbrev pub IsPartner : (faces : Faces) (e t : ℕ) → Type 0
IsPartner faces e t = IsTwin faces e t ⊎ ((t ≡ e) × ((k : ℕ) → ¬ IsTwin faces e k))

-- Each dart stands beside its partner.
pub record ArePartners (faces : Faces) (twins : List ℕ) : Type 0 where
  pub long : length twins ≡ darts faces
  pub each : (e : ℕ) → e < darts faces → IsPartner faces e (slice_index twins e)

-- Dart d runs from u to v.
abbrev pub Runs : (faces : Faces) (d u v : ℕ) → Type 0
Runs faces d u v = (from_of faces d ≡ u) × (to_of faces d ≡ v)

-- Each entry is a dart.
abbrev pub AreDarts : (faces : Faces) (entries : List ℕ) → Type 0
AreDarts faces entries = (v : ℕ) → 0 < darts faces → slice_index entries v < darts faces

-- At each end of a dart that leaves v stands a dart that runs from v to it.
abbrev pub AreMarked : (faces : Faces) (v : ℕ) (by_end : List ℕ) → Type 0
AreMarked faces v by_end =
    (d : ℕ) → d < darts faces → from_of faces d ≡ v → Runs faces (slice_index by_end (to_of faces d)) v (to_of faces d)

-- Different darts d and e run along one directed edge, the lesser first.
pub record IsTwice (faces : Faces) (d e : ℕ) : Type 0 where
  pub before : d < e
  pub is_dart : e < darts faces
  pub same : IsSameEdge faces d e

-- No dart below this one follows a lesser one along an edge from v.
abbrev pub NoneTwice : (faces : Faces) (v top : ℕ) → Type 0
NoneTwice faces v top = (j k : ℕ) → j < k → k < top → from_of faces j ≡ v → ¬ IsSameEdge faces j k

-- The first two darts along one edge from v, if any are.
abbrev pub IsFirstAt : (faces : Faces) (v : ℕ) (found : Option Doubled) → Type 0
IsFirstAt faces v None = NoneTwice faces v (darts faces)
IsFirstAt faces v (Some p) = IsTwice faces p.earlier p.later × NoneTwice faces v p.later

-- The same over all vertices below v.
abbrev pub IsFirstBelow : (faces : Faces) (v : ℕ) (found : Option Doubled) → Type 0
IsFirstBelow faces v None = (u : ℕ) → u < v → NoneTwice faces u (darts faces)
IsFirstBelow faces v (Some p) = IsTwice faces p.earlier p.later × ((u : ℕ) → u < v → NoneTwice faces u p.later)

-- What taking d leaves at its end: d itself, or the lesser dart that runs as d does and is told with it.
abbrev pub MarksOne : (faces : Faces) (v d : ℕ) (old new : List ℕ) (found : Option Doubled) → Type 0
MarksOne faces v d old new None = (new ≡ slice_set old (to_of faces d) d)
    × (slice_index old (to_of faces d) < d → ¬ Runs faces (slice_index old (to_of faces d)) v (to_of faces d))
MarksOne faces v d old new (Some p) = (new ≡ old) × (p.earlier ≡ slice_index old (to_of faces d)) × (p.later ≡ d)
    × (p.earlier < d) × Runs faces p.earlier v (to_of faces d)

-- The tables when all vertices below v have been taken.
pub record IsPairing (faces : Faces) (v : ℕ) (twins : List ℕ) (twice : Option Doubled) : Type 0 where
  pub long : length twins ≡ darts faces
  pub each : (e : ℕ) → e < darts faces → to_of faces e < v → IsPartner faces e (slice_index twins e)
  pub first : IsFirstBelow faces v twice

-- Of two pairs this is the one whose later dart is less.
abbrev pub IsEarlier : (a b chosen : Option Doubled) → Type 0
IsEarlier None b c = c ≡ b
IsEarlier (Some p) None c = c ≡ Some p
IsEarlier (Some p) (Some q) c = ((q.later < p.later) × (c ≡ Some q)) ⊎ ((p.later ≤ q.later) × (c ≡ Some p))

-- Dart d has a twin, by the table of partners.
abbrev pub IsPaired : (twins : List ℕ) (d : ℕ) → Type 0
IsPaired twins d = slice_index twins d ≢ d

-- Dart d has none.
abbrev pub IsAlone : (twins : List ℕ) (d : ℕ) → Type 0
IsAlone twins d = slice_index twins d ≡ d

-- The two edges at each of these corners have two darts.
abbrev pub AreAllPaired : (twins fan : List ℕ) → Type 0
AreAllPaired twins fan =
    (t : ℕ) → t < length fan → IsPaired twins (slice_index fan t) × IsPaired twins (prev_of (slice_index fan t))

-- An edge at one of these corners has one dart.
abbrev pub HasAlone : (twins fan : List ℕ) → Type 0
HasAlone twins fan =
    (t : ℕ) × (t < length fan) × (IsAlone twins (slice_index fan t) ⊎ IsAlone twins (prev_of (slice_index fan t)))
