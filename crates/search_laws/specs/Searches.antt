-- What holds while a search goes on, and how much of it is left.
use Rattle.std.specs.Prelude.{◌≡◌, ◌≢◌, ℕ, ◌+◌, ◌*◌, ◌/◌, ◌<◌, ◌≤◌, Bool, true, false, List, length, slice_index_or}
use Rattle.std.specs.Prelude.{Option, Some, None, ℤ, pos, ◌+ℤ◌, ◌-ℤ◌, ◌≤ℤ◌, unsigned_abs}
use Rattle.def_math.specs.Counts.{count_below}
use Rattle.def_matching.specs.Matching.{WeightedGraph, Vertex}
use Rattle.def_matching.specs.declared.limits.TheConstants.{MAX_PRODUCT}
use Rattle.def_forest.specs.Forests.{Blossom, Forest, dual_sum_of, sets_of}
use Rattle.def_forest.specs.declared.kinds.Label.{Label}
use Rattle.def_forest.specs.declared.kinds.Label.TheVariants.{Outer, Inner, Outside}
use Rattle.search_laws.specs.Keys.{is_stale}

-- A search from vertex v stands at a forest: the root is the blossom of v, and no vertex before v lies in an unmatched
-- blossom but in that one.
pub record IsSeeking (n : ℕ) (f : Forest) (root : Option Blossom) (v : Vertex) : Type 0 where
  pub vertex : v < n
  pub root_is : root ≡ Some (f.out v)
  pub before : (u : Vertex) → u < v → f.mate (f.out u) ≡ None → f.out u ≡ f.out v

-- The vertices before v lie in matched blossoms.
abbrev pub AreMatchedBefore : (f : Forest) (v : Vertex) → Type 0
AreMatchedBefore f v = (u : Vertex) → u < v → f.mate (f.out u) ≢ None

-- The number of vertices times a first weight is at most this in absolute value; and so far the sum may rise.
abbrev pub first_limit : ℕ
first_limit = 2 * MAX_PRODUCT + MAX_PRODUCT / 2

abbrev pub risen_limit : ℕ
risen_limit = first_limit + MAX_PRODUCT

-- The weights of n vertices were at most this when the searches began, and have changed by no more than the sum has
-- risen since.
pub record IsInRange (n first : ℕ) (f : Forest) (risen : ℕ) : Type 0 where
  pub start : ℤ
  pub start_high : (pos 0 -ℤ pos (n * first)) ≤ℤ start
  pub sum : dual_sum_of f ≡ (start +ℤ pos risen)
  pub weights : (b : Blossom) → unsigned_abs (f.weight b) ≤ first + risen

-- Each inner blossom has a mark.
abbrev pub AreMarked : (f : Forest) (marks : List Bool) → Type 0
AreMarked f marks = (b : Blossom) → f.label b ≡ Inner → slice_index_or marks b false ≡ true

-- How many vertices lie in no outer blossom.
abbrev pub not_outer : (l : Label) → ℕ
not_outer Outer = 0
not_outer Inner = 1
not_outer Outside = 1

abbrev pub vertices_left : (n : ℕ) (f : Forest) → ℕ
vertices_left n f = count_below (λ v. not_outer (f.label (f.out v))) n

-- At most so many steps are left: each puts vertices into outer blossoms, or takes a set apart and takes none out.
abbrev pub steps_left : (n : ℕ) (f : Forest) → ℕ
steps_left n f = vertices_left n f * (f.size + 1) + sets_of n f

-- At most so many turns are left: each is a step, or mends the key of a leaf.
abbrev pub turns_left : (g : WeightedGraph) (f : Forest) (risen : ℕ) (keys : List ℕ) → ℕ
turns_left g f risen keys = steps_left g.n f * (length keys + 1) + count_below (is_stale g f risen keys) (length keys)
