-- The edges of the matching graph: what holds of its vertices and of the units' costs, holds of their ends and costs.
use Rattle.std.proofs.Common.{rules, ◌≡◌, ◌≢◌, ℕ, zero, suc, ◌+◌, ◌<◌, ◌≤◌, Bool, true, false, cond, List, [], ◌∷◌}
use Rattle.std.proofs.Common.{◌++◌, length, Option, Some, None, ℤ, pos, refl, arith}
use Rattle.std.proofs.{lemmas.Bool.cases_eq, lemmas.List.Elements.All-from_recursion}
use Rattle.def_math.specs.Counts.{count, count_below}
use Rattle.def_matching.specs.{Matching.IsGraph, declared.weighted.WEdge.WEdge}
use Rattle.def_flow.specs.MatchingGraph.{fan, links_by, size_by, unit_links, unit_size, units_links}
use Rattle.def_flow.specs.MatchingGraph.{with_rim, rim, rim_links, first_fresh, lone_vertex, graph_by}
use Rattle.def_flow.specs.{Network.EndsBelow, declared.net.End.End, declared.units.ArcUnit.ArcUnit}
use Rattle.gadget_laws.proofs.{Pick.picked, Pick.at_ends, Pick.pairs, Units.UnitsAt}
use Rattle.{std.specs.List.All, std.specs.List.AllByRecursion, sum_laws.proofs.Sums.integers}

-- An edge between two different vertices that V holds of, with a cost that Q holds of.
abbrev pub IsEdge : (V : ℕ → Type 0) (Q : ℤ → Type 0) (e : WEdge) → Type 0
IsEdge V Q e = V e.u × V e.v × (e.u ≢ e.v) × Q e.cost

abbrev pub AreEdges : (V : ℕ → Type 0) (Q : ℤ → Type 0) (es : List WEdge) → Type 0
AreEdges V Q es = AllByRecursion (IsEdge V Q) es

-- Edges that cost nothing, and edges whose ends weigh nothing.
abbrev pub AreFree : List WEdge → Type 0
AreFree es = AreEdges (λ v. Unit {0}) (λ c. c ≡ pos 0) es

abbrev pub AreZero : (ℕ → ℤ) → List WEdge → Type 0
AreZero w es = AreEdges (λ v. w v ≡ pos 0) (λ c. Unit {0}) es

-- Of edges without weight nothing is picked, and for free ones nothing is paid.
pub picked_zero : (w : ℕ → ℤ) (ms : List Bool) (es : List WEdge) → AreZero w es → picked (at_ends w) ms es ≡ pos 0
picked_zero w (m ∷ ms) (e ∷ es) z = search (rules, integers, picked_zero w ms es z.1)
picked_zero w _ _ z = refl

pub picked_free : (ms : List Bool) (es : List WEdge) → AreFree es → picked (λ e. e.cost) ms es ≡ pos 0
picked_free (m ∷ ms) (e ∷ es) free = search (rules, integers, picked_free ms es free.1)
picked_free _ _ free = refl

-- What holds along two lists holds along both in a row.
pub each_append : {X : Type 0} (P : X → Type 0) (xs ys : List X) → AllByRecursion P xs → AllByRecursion P ys
    → AllByRecursion P (xs ++ ys)
each_append P [] ys a b = b
each_append P (x ∷ xs) ys a b = (a.0, each_append P xs ys a.1 b)

-- The copies of a node end below those of the nodes after it.
pub copies_below : (copies_at : ℕ → ℕ) (v nodes : ℕ) → v < nodes → count_below copies_at v + copies_at v
    ≤ count_below copies_at nodes
copies_below copies_at v zero l = absurd (omega arith)
copies_below copies_at v (suc n) l = grind (arith, cases_eq v n, copies_below copies_at v n)

-- A unit has a vertex of its own.
pub size_low : (left : End) (right : Option End) → 1 ≤ size_by left right
size_low left right = grind (arith)

-- Along the rim: a unit of a one-ended arc has a vertex there.
pub with_each : (P : ℕ → Type 0) (right : Option End) (r : ℕ) (rs : List ℕ) → (right ≡ None → P r)
    → AllByRecursion P rs → AllByRecursion P (with_rim right r rs)
with_each P None r rs here rest = (here refl, rest)
with_each P (Some right) r rs here rest = rest

pub rim_each : (P : ℕ → Type 0) (b : ℕ) (us : List ArcUnit) → ((k : ℕ) → b < k → k < b + count unit_size us → P k)
    → AllByRecursion P (rim b us)
rim_each P b [] all = tt
rim_each P b (u ∷ us) all = with_each P u.right (b + 1) (rim (b + unit_size u) us)
    (λ none. all (b + 1) (omega arith) (rw none (omega arith)))
    (rim_each P (b + unit_size u) us (λ k l h. all k (omega (arith, size_low u.left u.right)) (omega arith)))

-- The vertex before, if there is one, is past those of the units.
abbrev IsPast : ℕ → ℕ → Option ℕ → Type 0
IsPast m fresh None = Unit {0}
IsPast m fresh (Some b) = (m ≤ b) × (b < fresh)

module _ (V : ℕ → Type 0) (Q : ℤ → Type 0) (free : Q (pos 0)) where
  -- The edges from a vertex to some below it.
  fan_edges : (u : ℕ) (c : ℤ) (a n : ℕ) → V u → Q c → a + n ≤ u → ((k : ℕ) → k < a + n → V k)
      → AreEdges V Q (fan u c a n)
  fan_edges u c a zero at paid le below = tt
  fan_edges u c a (suc n) at paid le below =
      search (rules, fan_edges u c (a + 1) n at paid (omega arith) (λ k l. below k (omega arith)))

  -- The edges of units, whose own vertices are past the copies.
  module _ (nodes : ℕ) (copies_at : ℕ → ℕ) (copies : (k : ℕ) → k < count_below copies_at nodes → V k) where
    pub unit_edges : (b : ℕ) (c : ℤ) (left : End) (right : Option End) → EndsBelow nodes left right
        → count_below copies_at nodes ≤ b → ((k : ℕ) → b ≤ k → k < b + size_by left right → V k) → Q c
        → AreEdges V Q (links_by copies_at b c left right)
    unit_edges b c left None at le own paid = search (rules, each_append, copies_below, fan_edges)
    unit_edges b c left (Some right) at le own paid = search (rules, copies_below, fan_edges, each_append)

    pub units_edges : (b : ℕ) (us : List ArcUnit) → UnitsAt nodes us → count_below copies_at nodes ≤ b → ((k : ℕ) → b
        ≤ k → k < b + count unit_size us → V k) → All (λ u. Q u.cost) us → AreEdges V Q (units_links copies_at b us)
    units_edges b [] at le own paid = tt
    units_edges b (u ∷ us) at le own paid = each_append (IsEdge V Q) (unit_links copies_at b u) _
        (unit_edges b u.cost u.left u.right at.0 le (λ k l h. own k l (omega arith)) (paid 0 u (omega arith)))
        (units_edges (b + unit_size u) us at.1 (omega arith) (λ k l h. own k (omega arith) (omega arith))
        (λ k d l. paid (suc k) d (omega arith)))

  -- The edges at the rim: its vertices are below m, and from there on are those that it has alone.
  module _ (m n : ℕ) (high : (k : ℕ) → m ≤ k → k < n → V k) where
    rim_edges : (fresh : ℕ) (before : Option ℕ) (rs : List ℕ) → AllByRecursion (λ r. r < m) rs → AllByRecursion V rs
        → m ≤ fresh → IsPast m fresh before → fresh + pairs (length rs) ≤ n → AreEdges V Q (rim_links before fresh rs)
    rim_edges fresh before [] below at le past lt = tt
    rim_edges fresh before (r ∷ []) below at le past lt = search rules
    rim_edges fresh before (r ∷ s ∷ rs) below at le past lt = search (
      rules,
      rim_edges (fresh + 2) (Some (fresh + 1)) (s ∷ rs) below.1 at.1 (omega arith)
          (omega arith, omega arith) (omega arith),
    )

  module _ (nodes : ℕ) (copies_at : ℕ → ℕ) (lone : Bool) (us : List ArcUnit) where
    -- The edges past those of the units.
    pub rest_edges : AllByRecursion V (rim (count_below copies_at nodes) us)
        → ((k : ℕ) → count_below copies_at nodes + count unit_size us ≤ k → k < (graph_by nodes copies_at lone us).n
        → V k) → AreEdges V Q (rim_links (lone_vertex nodes copies_at lone us) (first_fresh nodes copies_at lone us)
        (rim (count_below copies_at nodes) us))
    rest_edges at high =
        let inner = count_below copies_at nodes + count _ us in
        let past : (o : Bool) → IsPast inner (inner + cond o 1 0) (cond o (Some inner) None) =
        elim [ true ↦ (omega arith, omega arith) | false ↦ tt ] in
        rim_edges _ _ high (first_fresh nodes copies_at lone us) (lone_vertex nodes copies_at lone us) (rim _ us)
        (search (rules, rim_each)) at (omega arith) (past lone) (omega arith)

    -- All edges.
    pub graph_edges : UnitsAt nodes us → ((k : ℕ) → k < (graph_by nodes copies_at lone us).n → V k)
        → All (λ u. Q u.cost) us → AreEdges V Q (graph_by nodes copies_at lone us).edges
    graph_edges at all paid = each_append _ _ _ (search (rules, units_edges))
        (rest_edges (rim_each V _ us (λ k l h. all k (omega arith))) (λ k l h. all k h))

-- The edges at the rim are free.
pub rest_free : (nodes : ℕ) (copies_at : ℕ → ℕ) (lone : Bool) (us : List ArcUnit) → AreFree (rim_links
    (lone_vertex nodes copies_at lone us) (first_fresh nodes copies_at lone us) (rim (count_below copies_at nodes) us))
rest_free nodes copies_at lone us = search (rules, rest_edges, rim_each)

-- The graph of units at nodes is one.
pub graph_lawful : (nodes : ℕ) (copies_at : ℕ → ℕ) (lone : Bool) (us : List ArcUnit) → UnitsAt nodes us
    → IsGraph (graph_by nodes copies_at lone us)
graph_lawful nodes copies_at lone us at =
    let n = (graph_by nodes copies_at lone us).n in
    let each = All-from_recursion (IsEdge (λ v. v < n) (λ c. Unit {0})) _ (search (rules, graph_edges)) in
    record { left = λ k l. (each k _ l).0; right = λ k l. (each k _ l).1; apart = λ k l. (each k _ l).2 }
