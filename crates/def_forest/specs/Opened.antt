-- An inner blossom that is opened.
use Rattle.std.specs.Prelude.{◌≡◌, ◌≢◌, ℕ, ◌+◌, ◌*◌, ◌<◌, ◌≤◌, ◌==◌, true, false, if◌then◌else◌, pos, Some, None}
use Rattle.def_matching.specs.Matching.{Vertex}
use Rattle.def_forest.specs.Darts.{Dart, Darts, far}
use Rattle.def_forest.specs.Forests.{Blossom, Forest, IsTight}
use Rattle.def_forest.specs.declared.kinds.Label.TheVariants.{Outer, Inner, Outside}

-- Inner blossom b of weight 0 is to be opened. Its parts are q 0, q 1 and so on along the ring, from the one that
-- its mate m leaves; the dart e j goes from q j to the next; the dart towards the root leaves q (2 turns).
pub record Opening : Type 0 where
  pub b : Blossom
  pub m : Dart
  pub half : ℕ
  pub turns : ℕ
  pub q : ℕ → Blossom
  pub e : ℕ → Dart
  -- The part that a vertex of b lies in.
  pub part : Vertex → Blossom

pub record IsOpening (g : Darts) (f : Forest) (o : Opening) : Type 0 where
  pub high : g.n ≤ o.b
  pub label : f.label o.b ≡ Inner
  pub weightless : f.weight o.b ≡ pos 0
  pub mate : f.mate o.b ≡ Some o.m
  pub some : 1 ≤ o.half
  pub short : o.turns ≤ o.half
  pub parts : (j : ℕ) → j ≤ 2 * o.half → (f.nest.up (o.q j) ≡ o.b) × (o.q j ≢ o.b) × (o.q j < f.size)
  pub distinct : (i j : ℕ) → i < j → j ≤ 2 * o.half → o.q i ≢ o.q j
  pub all : (p : Blossom) → f.nest.up p ≡ o.b → p ≢ o.b → (j : ℕ) × (j ≤ 2 * o.half) × (o.q j ≡ p)
  pub tight : (j : ℕ) → j < 2 * o.half → IsTight g f (o.e j)
  pub begins : (j : ℕ) → j < 2 * o.half → (f.out (g.near (o.e j)) ≡ o.b) × (o.part (g.near (o.e j)) ≡ o.q j)
  pub ends : (j : ℕ) → j < 2 * o.half → (f.out (far g (o.e j)) ≡ o.b) × (o.part (far g (o.e j)) ≡ o.q (j + 1))
  pub part_of : (v : Vertex) → v < g.n → f.out v ≡ o.b → (j : ℕ) × (j ≤ 2 * o.half) × (o.q j ≡ o.part v)
  pub held : (v : Vertex) (j : ℕ) → v < g.n → f.out v ≡ o.b → j ≤ 2 * o.half
      → f.holds (o.q j) v ≡ (o.part v == o.q j)
  pub parted : (x : Blossom) (u v : Vertex) → u < g.n → v < g.n → x ≢ o.b → f.holds x u ≡ true → f.holds x v ≡ true
      → f.out u ≡ o.b → f.out v ≡ o.b → o.part u ≡ o.part v
  pub first : o.part (g.near o.m) ≡ o.q 0
  pub last : o.part (g.near (f.link o.b)) ≡ o.q (2 * o.turns)

-- A blossom has the label, the darts and the place in the nest that it had.
pub record StaysAt (f new : Forest) (x : Blossom) : Type 0 where
  pub label : new.label x ≡ f.label x
  pub mate : new.mate x ≡ f.mate x
  pub link : new.link x ≡ f.link x
  pub up : new.nest.up x ≡ f.nest.up x
  pub after : new.nest.after x ≡ f.nest.after x
  pub joint : new.nest.joint x ≡ f.nest.joint x

-- A set has the parts that it had.
pub record KeepsParts (f new : Forest) (x : Blossom) : Type 0 where
  pub head : new.nest.head x ≡ f.nest.head x
  pub many : new.nest.parts x ≡ f.nest.parts x
  pub rank : new.nest.rank x ≡ f.nest.rank x

-- The parts of b are outermost: those up to where the dart towards the root leaves are inner and outer by turns, the
-- others outside; each is matched to its neighbour, the first by m.
pub record IsOpened (g : Darts) (f new : Forest) (o : Opening) : Type 0 where
  pub size : new.size ≡ f.size
  pub weight : (x : Blossom) → new.weight x ≡ f.weight x
  pub holds : (x : Blossom) (v : Vertex) → x ≢ o.b → v < g.n → new.holds x v ≡ f.holds x v
  pub holds_none : (v : Vertex) → v < g.n → new.holds o.b v ≡ false
  pub out : (v : Vertex) → v < g.n → new.out v ≡ (if f.out v == o.b then o.part v else f.out v)
  pub inner : (i : ℕ) → i ≤ o.turns → new.label (o.q (2 * i)) ≡ Inner
  pub outer : (i : ℕ) → i < o.turns → new.label (o.q (2 * i + 1)) ≡ Outer
  pub off : (j : ℕ) → 2 * o.turns < j → j ≤ 2 * o.half → new.label (o.q j) ≡ Outside
  pub first_mate : new.mate (o.q 0) ≡ Some o.m
  pub odd_mate : (i : ℕ) → i < o.half → new.mate (o.q (2 * i + 1)) ≡ Some (o.e (2 * i + 1))
  pub even_mate : (i : ℕ) → i < o.half → new.mate (o.q (2 * i + 2)) ≡ Some (g.twin (o.e (2 * i + 1)))
  pub link : (i : ℕ) → i < o.turns → new.link (o.q (2 * i)) ≡ o.e (2 * i)
  pub last_link : new.link (o.q (2 * o.turns)) ≡ f.link o.b
  pub gone : (new.label o.b ≡ Outside) × (new.mate o.b ≡ None)
  pub others : (x : Blossom) → f.nest.up x ≢ o.b → StaysAt f new x
  pub parts_out : (x : Blossom) → f.nest.up x ≡ o.b → new.nest.up x ≡ x
  pub no_parts : new.nest.parts o.b ≡ 0
  pub sets : (x : Blossom) → x ≢ o.b → KeepsParts f new x

-- Inner blossom b was opened.
pub record IsExpanding (g : Darts) (f new : Forest) (b : Blossom) : Type 0 where
  pub o : Opening
  pub is : o.b ≡ b
  pub opening : IsOpening g f o
  pub opened : IsOpened g f new o
