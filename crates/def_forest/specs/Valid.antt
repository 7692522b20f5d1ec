-- When a forest is valid for a graph.
use Rattle.std.specs.Prelude.{◌≡◌, ◌≢◌, ℕ, ◌+◌, ◌*◌, ◌<◌, ◌≤◌, ◌==◌, true, false, pos, ◌+ℤ◌, ◌≤ℤ◌, Option, Some, None}
use Rattle.std.specs.Prelude.{◌⊎◌}
use Rattle.def_matching.specs.Matching.{Vertex}
use Rattle.def_forest.specs.Darts.{Dart, Darts, far}
use Rattle.def_forest.specs.Forests.{Blossom, Forest, weight_between, IsTight, IsOutermost, bool_number, walk, ring_sum}
use Rattle.def_forest.specs.declared.kinds.Label.TheVariants.{Outer, Inner, Outside}

-- The outermost blossoms share the vertices out, and only they have a place in the tree.
pub record AreOutermost (n : ℕ) (f : Forest) : Type 0 where
  pub vertices : n ≤ f.size
  pub out_low : (v : Vertex) → v < n → f.out v < f.size
  pub held : (u v : Vertex) → u < n → v < n → f.holds (f.out u) v ≡ (f.out v == f.out u)
  pub tops : (v : Vertex) → v < n → f.nest.up (f.out v) ≡ f.out v
  pub together : (b : Blossom) (u v : Vertex) → u < n → v < n → f.holds b u ≡ true → f.holds b v ≡ true
      → f.out u ≡ f.out v
  pub named : (b : Blossom) → f.label b ≢ Outside → IsOutermost n f b

-- Set b is an odd ring of parts that share its vertices out; each joint goes from a part to the next.
pub record IsRing (g : Darts) (f : Forest) (b : Blossom) : Type 0 where
  pub half : ℕ
  pub some : 1 ≤ half
  pub odd : f.nest.parts b ≡ 2 * half + 1
  pub closed : walk f.nest.after (f.nest.head b) (f.nest.parts b) ≡ f.nest.head b
  pub inside : (k : ℕ) → f.nest.up (walk f.nest.after (f.nest.head b) k) ≡ b
  pub lower : (k : ℕ) → f.nest.rank (walk f.nest.after (f.nest.head b) k) < f.nest.rank b
  pub below : (k : ℕ) → walk f.nest.after (f.nest.head b) k < f.size
  pub distinct : (i j : ℕ) → i < j → j < f.nest.parts b
      → walk f.nest.after (f.nest.head b) i ≢ walk f.nest.after (f.nest.head b) j
  pub all : (p : Blossom) → f.nest.up p ≡ b → p ≢ b
      → (k : ℕ) × (k < f.nest.parts b) × (walk f.nest.after (f.nest.head b) k ≡ p)
  pub shared : (v : Vertex) → v < g.n
      → bool_number (f.holds b v)
      ≡ ring_sum f.nest.after (λ p. bool_number (f.holds p v)) (f.nest.head b) (f.nest.parts b)

-- The dart from part p to the next is tight, and begins in the one and ends in the other.
pub record IsJoint (g : Darts) (f : Forest) (p : Blossom) : Type 0 where
  pub tight : IsTight g f (f.nest.joint p)
  pub begins : f.holds p (g.near (f.nest.joint p)) ≡ true
  pub ends : f.holds (f.nest.after p) (far g (f.nest.joint p)) ≡ true
  pub same : f.out (g.near (f.nest.joint p)) ≡ f.out (far g (f.nest.joint p))

-- A vertex is the blossom that holds it alone. Any other number is that of a ring, or is not in use: then it has no
-- parts and no weight, and holds nothing.
pub record IsNested (g : Darts) (f : Forest) : Type 0 where
  pub alone : (v w : Vertex) → v < g.n → w < g.n → f.holds v w ≡ (v == w)
  pub rings : (b : Blossom) → g.n ≤ b → f.nest.parts b ≢ 0 → IsRing g f b
  pub empty : (b : Blossom) (v : Vertex) → g.n ≤ b → v < g.n → f.nest.parts b ≡ 0 → f.holds b v ≡ false
  pub weightless : (b : Blossom) → g.n ≤ b → f.nest.parts b ≡ 0 → f.weight b ≡ pos 0
  pub live : (p : Blossom) → f.nest.up p ≢ p → (g.n ≤ f.nest.up p) × (f.nest.parts (f.nest.up p) ≢ 0)
  pub joints : (p : Blossom) → f.nest.up p ≢ p → IsJoint g f p

-- Sets have weights of at least 0, and no load is above twice the cost.
pub record IsFeasible (g : Darts) (f : Forest) : Type 0 where
  pub sets : (b : Blossom) → g.n ≤ b → b < f.size → pos 0 ≤ℤ f.weight b
  pub darts : (d : Dart) → d < g.count → weight_between f (g.near d) (far g d) ≤ℤ (g.cost d +ℤ g.cost d)

-- Blossom b is matched by dart d: it is tight, leaves b, and its twin matches the other blossom.
pub record IsMate (g : Darts) (f : Forest) (b : Blossom) (d : Dart) : Type 0 where
  pub tight : IsTight g f d
  pub here : f.out (g.near d) ≡ b
  pub other : f.out (far g d) ≢ b
  pub back : f.mate (f.out (far g d)) ≡ Some (g.twin d)

-- All mates are.
abbrev pub IsMatched : (g : Darts) (f : Forest) → Type 0
IsMatched g f = (b : Blossom) (d : Dart) → f.mate b ≡ Some d → IsMate g f b d

-- An inner blossom hangs by a tight dart on an outer one that is nearer to the root, and is matched to an outer one.
pub record IsInner (g : Darts) (f : Forest) (depth : Blossom → ℕ) (b : Blossom) : Type 0 where
  pub tight : IsTight g f (f.link b)
  pub here : f.out (g.near (f.link b)) ≡ b
  pub above : f.label (f.out (far g (f.link b))) ≡ Outer
  pub nearer : depth (f.out (far g (f.link b))) < depth b
  pub dart : Dart
  pub mate : f.mate b ≡ Some dart
  pub child : f.label (f.out (far g dart)) ≡ Outer
  pub same : depth (f.out (far g dart)) ≡ depth b

-- An outer blossom is the root, or matched to an inner one.
abbrev pub IsOuter : (g : Darts) (f : Forest) (root b : Blossom) → Type 0
IsOuter g f root b = (b ≡ root) ⊎ ((d : Dart) × (f.mate b ≡ Some d) × (f.label (f.out (far g d)) ≡ Inner))

-- A tree stands on its root, an outer blossom that is not matched.
pub record IsTree (g : Darts) (f : Forest) (root : Blossom) : Type 0 where
  pub depth : Blossom → ℕ
  pub root_outer : f.label root ≡ Outer
  pub root_free : f.mate root ≡ None
  pub inner : (b : Blossom) → f.label b ≡ Inner → IsInner g f depth b
  pub outer : (b : Blossom) → f.label b ≡ Outer → IsOuter g f root b

-- What is matched to a blossom outside the tree is outside.
abbrev pub KeepsOutside : (g : Darts) (f : Forest) → Type 0
KeepsOutside g f = (b : Blossom) (d : Dart) → f.label b ≡ Outside → f.mate b ≡ Some d
    → f.label (f.out (far g d)) ≡ Outside

-- A forest is valid, with a tree on a root, or with no tree.
pub record IsValid (g : Darts) (f : Forest) (root : Option Blossom) : Type 0 where
  pub outermost : AreOutermost g.n f
  pub nested : IsNested g f
  pub feasible : IsFeasible g f
  pub matched : IsMatched g f
  pub tree : (r : Blossom) → root ≡ Some r → IsTree g f r
  pub no_tree : root ≡ None → (b : Blossom) → f.label b ≡ Outside
  pub outside : KeepsOutside g f
