-- Who goes on at a vertex with four faces, told by two bits: the rider by d, where neither the rider to whom it gives
-- way arrives nor the one from the opposite side.
use Rattle.std.proofs.Common.{arith, rules, ◌≡◌, ◌≢◌, ◌⊎◌, ℕ, ◌<◌, true, false, not, ◌&&◌, List, [], ◌∷◌}
use Rattle.std.proofs.Common.{Bool, Some, None}
use Rattle.std.proofs.lemmas.Bool.{false≢true, ne_eqb, eqb-true, Decides.nat_tests}
use Rattle.def_mesh.specs.HalfEdges.{HalfEdges, IsQuadManifold}
use Rattle.def_cut.specs.Motion.{Terrain, end_of, is_among, gives_way, goes_on, State, ridden, start}
use Rattle.def_cut.specs.{Cuts.IsCross, Cuts.HasCross, Trails.Trail, Trails.IsTracked, Trails.HasSources}
use Rattle.motion_laws.proofs.Among.{among_cases, AreApart}

-- The darts that arrive at a vertex with four faces, going round: d gives way to p, p to q, q to r, and r to d.
pub record AreRound (g : Terrain) (d p q r : ℕ) : Type 0 where
  pub d_p : d ≢ p
  pub d_q : d ≢ q
  pub d_r : d ≢ r
  pub p_q : p ≢ q
  pub p_r : p ≢ r
  pub q_r : q ≢ r
  pub p_d : gives_way g p d ≡ false
  pub q_d : gives_way g q d ≡ false
  pub r_d : gives_way g r d ≡ true

-- One of the four.
abbrev pub IsOfFour : (d p q r x : ℕ) → Type 0
IsOfFour d p q r x = (x ≡ d) ⊎ ((x ≡ p) ⊎ ((x ≡ q) ⊎ (x ≡ r)))

-- A cross seen from the next dart.
pub rotated : (mesh : HalfEdges) → IsQuadManifold mesh → (d a b c : ℕ) → d < mesh.count → IsCross mesh d a b c
    → IsCross mesh a b c d
rotated mesh laws d a b c low x = search rules

module _ (g : Terrain) (d p q r : ℕ) (round : AreRound g d p q r) where
  -- The rider by d goes on where neither p nor q arrives: of three that differ, one is p or q.
  pub two_bits_of : (ds : List ℕ) → AreApart ds → is_among d ds ≡ true → ((x : ℕ) → is_among x ds ≡ true
      → IsOfFour d p q r x) → goes_on g ds d ≡ (not (is_among p ds) && not (is_among q ds))
  two_bits_of [] apart m all = absurd (false≢true m)
  two_bits_of (x ∷ []) apart m all = search (rules, among_cases, eqb-true, ne_eqb)
  two_bits_of (x ∷ y ∷ []) apart m all = grind (arith, nat_tests, all x, all y)
  two_bits_of (x ∷ y ∷ z ∷ more) apart m all = grind (arith, nat_tests, all x, all y, all z)

-- Where riders move, from where they start, and what each state that they reach knows.

-- The half edges are a manifold's. An edge with one dart lies at the boundary; a vertex that is neither at the boundary
-- nor singular has four faces; and a boundary vertex has an edge with one dart.
pub record IsTerrain (g : Terrain) : Type 0 where
  pub half : IsQuadManifold g.half
  pub edged : (d : ℕ) → d < g.half.count → g.half.twin d ≡ None → (g.boundary (g.half.from d) ≡ true)
      × (g.boundary (end_of g d) ≡ true)
  pub crossed : (d : ℕ) → d < g.half.count → g.boundary (g.half.from d) ≡ false → g.singular (g.half.from d) ≡ false
      → HasCross g.half d
  pub rimmed : (d : ℕ) → d < g.half.count → g.boundary (g.half.from d) ≡ true → (e : ℕ) × (e < g.half.count)
      × (g.half.from e ≡ g.half.from d) × ((g.half.twin e ≡ None) ⊎ (g.half.twin (g.half.prev e) ≡ None))

-- The start darts differ, and each component has one or a vertex with one face. Of the darts with a twin that leave one
-- vertex all start or none, all that leave a singular vertex do, and where a dart ends at the boundary, the next one
-- starts, or the boundary goes on beside it or straight on.
pub record IsStarted (g : Terrain) (starts : List ℕ) : Type 0 where
  pub apart : AreApart starts
  pub low : (d : ℕ) → is_among d starts ≡ true → d < g.half.count
  pub all : (d e t : ℕ) → d < g.half.count → e < g.half.count → is_among d starts ≡ true → g.half.from e ≡ g.half.from d
      → g.half.twin e ≡ Some t → is_among e starts ≡ true
  pub found : HasSources g.half (λ e. is_among e starts)
  pub singular : (d : ℕ) → d < g.half.count → g.singular (g.half.from d) ≡ true → is_among d starts ≡ true
  pub sided : (d : ℕ) → d < g.half.count → g.boundary (end_of g d) ≡ true → (is_among (g.half.next d) starts ≡ true)
      ⊎ ((g.half.twin (g.half.next d) ≡ None) ⊎ ((t : ℕ) × (g.half.twin (g.half.next d) ≡ Some t)
      × (g.half.twin (g.half.next t) ≡ None)))

-- A rider has stood at v, or v lies at the boundary.
abbrev pub IsKnown : (g : Terrain) (s : State) (v : ℕ) → Type 0
IsKnown g s v = (s.stood v ≡ true) ⊎ (g.boundary v ≡ true)

-- The edge of d is covered, or is ridden next.
abbrev pub IsSoon : (s : State) (d : ℕ) → Type 0
IsSoon s d = (s.covered d ≡ true) ⊎ (is_among d (ridden s.riders) ≡ true)

-- The edge of d lies at the boundary, or is covered or ridden next in either direction.
abbrev pub IsShut : (g : Terrain) (s : State) (d : ℕ) → Type 0
IsShut g s d = IsSoon s d ⊎ ((g.half.twin d ≡ None) ⊎ ((t : ℕ) × (g.half.twin d ≡ Some t) × IsSoon s t))

-- Two opposite edges at v, which has four faces, are covered or ridden next.
pub record IsCrossedAt (g : Terrain) (s : State) (v : ℕ) : Type 0 where
  pub x : ℕ
  pub a : ℕ
  pub b : ℕ
  pub c : ℕ
  pub low : x < g.half.count
  pub at : g.half.from x ≡ v
  pub cross : IsCross g.half x a b c
  pub soon : IsSoon s x
  pub facing : IsSoon s b

pub crossed_at : {g : Terrain} {s : State} {v x a b c : ℕ} → x < g.half.count → g.half.from x ≡ v
    → IsCross g.half x a b c → IsSoon s x → IsSoon s b → IsCrossedAt g s v
crossed_at {x = x} {a = a} {b = b} {c = c} low at cross soon facing = search rules

-- What each state knows that is reached from a first one, where trails may begin with these darts. The darts ridden
-- next differ, and leave vertices where a rider has stood; both ends of a covered edge are known; what was covered or
-- ridden first is kept; trails lead to what is ridden and covered.
pub record IsReachedFrom (g : Terrain) (begins : ℕ → Bool) (first s : State) : Type 0 where
  pub apart : AreApart (ridden s.riders)
  pub low : (d : ℕ) → is_among d (ridden s.riders) ≡ true → d < g.half.count
  pub left : (d : ℕ) → is_among d (ridden s.riders) ≡ true → s.stood (g.half.from d) ≡ true
  pub alike : (d t : ℕ) → d < g.half.count → g.half.twin d ≡ Some t → s.covered t ≡ s.covered d
  pub ends : (d : ℕ) → d < g.half.count → s.covered d ≡ true → IsKnown g s (g.half.from d) × IsKnown g s (end_of g d)
  pub kept : (d : ℕ) → IsSoon first d → IsSoon s d
  pub trails : (d : ℕ) → is_among d (ridden s.riders) ≡ true → (k : ℕ) × Trail g.half begins s.covered d k
  pub tracked : (d : ℕ) → d < g.half.count → s.covered d ≡ true → IsTracked g.half begins s.covered d
  pub through : (d : ℕ) → d < g.half.count → s.stood (g.half.from d) ≡ true → g.boundary (g.half.from d) ≡ false
      → g.singular (g.half.from d) ≡ false → IsCrossedAt g s (g.half.from d)

-- A state from which the motion comes to a full cut: it knows what reached states know; each component has a source;
-- where a trail begins its edge, the one before and the one after its twin are shut; so are all edges at singular
-- vertices, and where a dart ends at the boundary, the next one is, or the boundary goes on straight.
pub record IsFirst (g : Terrain) (begins : ℕ → Bool) (first : State) : Type 0 where
  pub reached : IsReachedFrom g begins first first
  pub found : HasSources g.half begins
  pub begun : (d : ℕ) → d < g.half.count → begins d ≡ true → IsSoon first d
  pub before : (d : ℕ) → d < g.half.count → begins d ≡ true → IsShut g first (g.half.prev d)
  pub beside : (d t : ℕ) → d < g.half.count → begins d ≡ true → g.half.twin d ≡ Some t → IsShut g first (g.half.next t)
  pub singular : (d : ℕ) → d < g.half.count → g.singular (g.half.from d) ≡ true → IsShut g first d
  pub sided : (d : ℕ) → d < g.half.count → g.boundary (end_of g d) ≡ true → IsShut g first (g.half.next d)
      ⊎ ((t : ℕ) × (g.half.twin (g.half.next d) ≡ Some t) × (g.half.twin (g.half.next t) ≡ None))

-- The states of the motion that starts with these darts.
abbrev pub IsReached : (g : Terrain) (starts : List ℕ) (s : State) → Type 0
IsReached g starts s = IsReachedFrom g (λ e. is_among e starts) (start g starts) s
