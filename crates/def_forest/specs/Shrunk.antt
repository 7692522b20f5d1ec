-- A cycle of the tree that becomes one blossom.
use Rattle.std.specs.Prelude.{◌≡◌, ◌≢◌, ℕ, ◌+◌, ◌*◌, ◌<◌, ◌≤◌, ◌==◌, Bool, true, false, if◌then◌else◌, pos, Option}
use Rattle.std.specs.Prelude.{Some, None}
use Rattle.def_matching.specs.Matching.{Vertex}
use Rattle.def_forest.specs.Darts.{Dart, Darts, far}
use Rattle.def_forest.specs.Forests.{Blossom, Forest, IsTight, bool_number, walk, ring_sum, set_at}
use Rattle.def_forest.specs.Valid.{IsTree}
use Rattle.def_forest.specs.declared.kinds.Label.TheVariants.{Outer, Outside}

-- A number that no blossom has.
pub record IsUnused (n : ℕ) (f : Forest) (b : Blossom) : Type 0 where
  pub high : n ≤ b
  pub low : b < f.size
  pub no_parts : f.nest.parts b ≡ 0
  pub weightless : f.weight b ≡ pos 0
  pub outside : f.label b ≡ Outside
  pub unmatched : f.mate b ≡ None
  pub alone : f.nest.up b ≡ b
  pub around_none : (x : Blossom) → x ≢ b → f.nest.up x ≢ b
  pub no_out : (v : Vertex) → v < n → f.out v ≢ b

-- Blossoms of the tree lie on a cycle through their top, the nearest to the root: on both sides of it the cycle goes
-- down by tree edges and matched edges in turn.
pub record IsCycle (g : Darts) (f : Forest) (root : Blossom) (depth : Blossom → ℕ) (inside : Blossom
    → Bool) (top : Blossom)
    : Type 0 where
  pub top_outer : f.label top ≡ Outer
  pub top_in : inside top ≡ true
  pub in_tree : (x : Blossom) → inside x ≡ true → f.label x ≢ Outside
  pub above : (x : Blossom) → inside x ≡ true → depth top ≤ depth x
  pub mates : (x : Blossom) (d : Dart) → inside x ≡ true → x ≢ top → f.mate x ≡ Some d → inside (f.out (far g d)) ≡ true
  pub top_mate : (d : Dart) → f.mate top ≡ Some d → inside (f.out (far g d)) ≡ false
  pub root_top : inside root ≡ true → root ≡ top

-- The marked blossoms lie on a ring of odd length: each once, each joined to the next.
pub record IsClosedRow (g : Darts) (f : Forest) (after : Blossom → Blossom) (joint : Blossom → Dart)
    (inside : Blossom → Bool) (front : Blossom) (many : ℕ) : Type 0 where
  pub half : ℕ
  pub some : 1 ≤ half
  pub odd : many ≡ 2 * half + 1
  pub closed : walk after front many ≡ front
  pub marked : (k : ℕ) → inside (walk after front k) ≡ true
  pub shared : (v : Vertex) → v < g.n
      → bool_number (inside (f.out v)) ≡ ring_sum after (λ p. bool_number (f.out v == p)) front many
  pub distinct : (i j : ℕ) → i < j → j < many → walk after front i ≢ walk after front j
  pub all : (x : Blossom) → inside x ≡ true → (k : ℕ) × (k < many) × (walk after front k ≡ x)
  pub tight : (x : Blossom) → inside x ≡ true → IsTight g f (joint x)
  pub begins : (x : Blossom) → inside x ≡ true → f.out (g.near (joint x)) ≡ x
  pub ends : (x : Blossom) → inside x ≡ true → f.out (far g (joint x)) ≡ after x

-- The marked blossoms become one outer blossom b of weight 0, matched as their top was.
pub record IsShrunk (n : ℕ) (f new : Forest) (inside : Blossom → Bool) (top b : Blossom) (front : Blossom) (many : ℕ)
    : Type 0 where
  pub size : new.size ≡ f.size
  pub holds_new : (v : Vertex) → v < n → new.holds b v ≡ inside (f.out v)
  pub holds_old : (x : Blossom) (v : Vertex) → x ≢ b → v < n → new.holds x v ≡ f.holds x v
  pub out : (v : Vertex) → v < n → new.out v ≡ (if inside (f.out v) then b else f.out v)
  pub weight : (x : Blossom) → new.weight x ≡ f.weight x
  pub label : (x : Blossom) → new.label x ≡ set_at (λ y. if inside y then Outside else f.label y) b Outer x
  pub mate : (x : Blossom) → new.mate x ≡ set_at (λ y. if inside y then None else f.mate y) b (f.mate top) x
  pub link : (x : Blossom) → new.link x ≡ f.link x
  pub up : (x : Blossom) → new.nest.up x ≡ set_at (λ y. if inside y then b else f.nest.up y) b b x
  pub after : (x : Blossom) → inside x ≡ false → new.nest.after x ≡ f.nest.after x
  pub joint : (x : Blossom) → inside x ≡ false → new.nest.joint x ≡ f.nest.joint x
  pub head : (x : Blossom) → new.nest.head x ≡ set_at f.nest.head b front x
  pub parts : (x : Blossom) → new.nest.parts x ≡ set_at f.nest.parts b many x
  pub rank : (x : Blossom) → x ≢ b → new.nest.rank x ≡ f.nest.rank x
  pub ranked : (x : Blossom) → inside x ≡ true → f.nest.rank x < new.nest.rank b

-- The cycle that dart d closes in the tree has become one blossom, and the root's where the root was on it.
pub record IsShrinking (g : Darts) (f new : Forest) (root new_root : Option Blossom) (d : Dart) : Type 0 where
  pub r : Blossom
  pub old_root : root ≡ Some r
  pub tree : IsTree g f r
  pub inside : Blossom → Bool
  pub top : Blossom
  pub set : Blossom
  pub many : ℕ
  pub begins : inside (f.out (g.near d)) ≡ true
  pub ends : inside (f.out (far g d)) ≡ true
  pub cycle : IsCycle g f r tree.depth inside top
  pub unused : IsUnused g.n f set
  pub row : IsClosedRow g f new.nest.after new.nest.joint inside top many
  pub shrunk : IsShrunk g.n f new inside top set top many
  pub root_is : new_root ≡ Some (if inside r then set else r)
