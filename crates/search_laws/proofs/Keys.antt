-- Keys do not change with a shift, and what they say is lawful.
use Rattle.std.proofs.Common.{rules, ◌≡◌, ℕ, ◌+◌, ◌-◌, ◌*◌, ◌%◌, ◌<◌, ◌≤◌, Bool, true, false, length, ℤ, pos, ◌+ℤ◌}
use Rattle.std.proofs.Common.{◌-ℤ◌, ◌≤ℤ◌, ap, inl, inr, arith}
use Rattle.std.proofs.lemmas.Bool.{cases_eq, cases_lt, cond-true, cond-false, eq-eqb, eqb-true, lt-ltb, le-ltb}
use Rattle.std.{proofs.lemmas.Int.ints, specs.Int.RustNames.unsigned_abs}
use Rattle.def_matching.specs.Matching.{WeightedGraph, IsGraph, edge_at}
use Rattle.def_forest.specs.{Darts.darts_of, Darts.far, Forests.Forest, Forests.weight_between, Steps.weight_change}
use Rattle.def_forest.specs.{Steps.shifted, Tables.slack_of, Valid.AreOutermost, Valid.IsFeasible}
use Rattle.def_forest.specs.{declared.kinds.Label.Label}
use Rattle.forest_laws.proofs.Bounds.{dart_near, dart_far, dart_cost, near_even}
use Rattle.forest_laws.proofs.Grows.{load_apart, load_order, load_within, true_false}
use Rattle.search_laws.specs.Keys.{edge_key_by, edge_key, set_key_by, set_key, set_of, leaf_of, true_key}

-- The key of an edge, and that of a set.
pub at_edge : (g : WeightedGraph) (f : Forest) (risen k : ℕ) → k < length g.edges → true_key g f risen k
    ≡ edge_key g f risen k
at_edge g f risen k l = cond-true _ _ _ (lt-ltb k (length g.edges) l)

pub at_set : (g : WeightedGraph) (f : Forest) (risen k : ℕ) → length g.edges ≤ k → true_key g f risen k
    ≡ set_key f risen (set_of g k)
at_set g f risen k h = cond-false _ _ _ (le-ltb k (length g.edges) h)

pub set_leaf : (g : WeightedGraph) (b : ℕ) → g.n ≤ b → set_of g (leaf_of g b) ≡ b
set_leaf g b h = omega (arith, h)

-- The slack of each edge is at least 0.
pub slack_high : (g : WeightedGraph) {f : Forest} (e : ℕ) → IsFeasible (darts_of g) f → e < length g.edges
    → pos 0 ≤ℤ slack_of g f e
slack_high g {f} e feasible l =
    let low = rw (dart_near g e, dart_far g e, dart_cost g e) at (feasible.darts (2 * e) (omega arith)) in
    omega (arith, ints)

-- Where no edge's load is above twice its cost, no dart's is.
pub darts_low : (g : WeightedGraph) (f : Forest) → ((e : ℕ) → e < length g.edges → pos 0 ≤ℤ slack_of g f e) → (d : ℕ)
    → d < 2 * length g.edges
    → weight_between f ((darts_of g).near d) (far (darts_of g) d) ≤ℤ ((darts_of g).cost d +ℤ (darts_of g).cost d)
darts_low g f slacks d l =
    elim (cases_eq (d % 2) 0) [ inl even ↦ search rules | inr odd ↦ search (rules, near_even, load_order) ]

-- Where the dual may rise by x, an edge's slack stays at least 0 and its key does not change.
edge_shift : (a b : Label) (same : Bool) (slack later : ℤ) (risen x : ℕ) → pos 0 ≤ℤ slack
    → (same ≡ true → (later ≡ slack) × (a ≡ b))
    → (same ≡ false → later ≡ slack -ℤ (weight_change a (pos x) +ℤ weight_change b (pos x))) → risen + x ≤ edge_key_by a
    b same (unsigned_abs slack) risen → (pos 0 ≤ℤ later) × (edge_key_by a b same (unsigned_abs later) (risen + x)
    ≡ edge_key_by a b same (unsigned_abs slack) risen)
edge_shift a b same slack later risen x high within apart room = grind (arith, ints)

-- Likewise the weight and the key of a set.
set_shift : (l : Label) (w : ℤ) (risen x : ℕ) → pos 0 ≤ℤ w → risen + x ≤ set_key_by l w risen
    → (pos 0 ≤ℤ (w +ℤ weight_change l (pos x)))
    × (set_key_by l (w +ℤ weight_change l (pos x)) (risen + x) ≡ set_key_by l w risen)
set_shift l w risen x high room = grind (arith, ints)

module _ (g : WeightedGraph) (is : IsGraph g) (f : Forest) (outermost : AreOutermost g.n f)
    (feasible : IsFeasible (darts_of g) f) (risen x : ℕ) where
  edge_shifted : (e : ℕ) → e < length g.edges → risen + x ≤ true_key g f risen e
      → (pos 0 ≤ℤ slack_of g (shifted f (pos x)) e)
      × (edge_key g (shifted f (pos x)) (risen + x) e ≡ edge_key g f risen e)
  edge_shifted e le room =
      let u = (edge_at g e).u in
      let v = (edge_at g e).v in
      edge_shift _ _ _ _ _ _ x (slack_high g e feasible le) (λ on. (let same = eqb-true (f.out u) (f.out v) on in
      (cc (load_within outermost _ u v (is.left e le) (is.right e le) same), ap f.label same)))
      (λ off. (let apart = load_apart outermost (pos x) u v (is.left e le) (is.right e le)
      (λ same. true_false (eq-eqb (f.out u) (f.out v) same) off) in omega (arith, ints)))
      (rw (at_edge g f _ e le) at room)

  module _ (most : ℕ) (sets : length g.edges + (f.size - g.n) ≤ most) (room : (k : ℕ) → k < most
      → risen + x ≤ true_key g f risen k) where
    set_room_at : (b : ℕ) → g.n ≤ b → b < f.size → risen + x ≤ set_key f risen b
    set_room_at b h l = rw (at_set g f risen (leaf_of g b) (omega arith), set_leaf g b h) at (room (leaf_of g b)
        (omega arith))

    -- The dual may rise up to the least key.
    pub lawful : IsFeasible (darts_of g) (shifted f (pos x))
    lawful = record {
      sets = λ b h l. (set_shift (f.label b) (f.weight b) risen x (feasible.sets b h l) (set_room_at b h l)).0;
      darts = darts_low g (shifted f (pos x)) (λ e le. (edge_shifted e le (room e (omega (arith, le, sets)))).0);
    }

    -- Then no key changes.
    pub keys_same : (k : ℕ) → k < most → true_key g (shifted f (pos x)) (risen + x) k ≡ true_key g f risen k
    keys_same k l = elim (cases_lt k (length g.edges)) [
      | inl le ↦ search (rules, at_edge, edge_shifted k le (room k l))
      | inr he ↦ search (rules, set_room_at)
    ]
