-- What a contract sees of a forest that a program keeps: its tables, the forest that they stand for, and the step
-- that an edge allows.
use Rattle.std.specs.Prelude.{◌≡◌, ℕ, zero, suc, ◌+◌, ◌*◌, ◌<◌, ◌==◌, ◌||◌, Bool, if◌then◌else◌, List, length, map}
use Rattle.std.specs.Prelude.{slice_index, slice_index_or, Option, Some, None, is_some}
use Rattle.std.specs.Prelude.{ℤ, pos, ◌+ℤ◌, ◌-ℤ◌, ◌*ℤ◌, int_lt}
use Rattle.def_math.specs.Counts.{count}
use Rattle.def_math.specs.Increasing.{IsIncreasing}
use Rattle.def_matching.specs.Matching.{WeightedGraph, Vertex, EdgeNumber, edge_at, ends_at}
use Rattle.def_forest.specs.Darts.{Dart, darts_of}
use Rattle.def_forest.specs.Forests.{Blossom, Forest, IsTight, weight_between}
use Rattle.def_forest.specs.Steps.{weight_change}
use Rattle.def_forest.specs.Valid.{IsValid}
use Rattle.def_forest.specs.declared.kinds.Label.{Label}
use Rattle.def_forest.specs.declared.kinds.Label.TheVariants.{Outer, Inner, Outside}
use Rattle.def_forest.specs.declared.kinds.EdgeKind.{EdgeKind}
use Rattle.def_forest.specs.declared.kinds.EdgeKind.TheVariants.{Loose, Augment, Grow, Shrink, Idle}

-- How many vertices and edges a graph has.
pub record GraphSize : Type 0 where
  pub vertices : ℕ
  pub edges : ℕ

abbrev pub size_of : (g : WeightedGraph) → GraphSize
size_of g = record { vertices = g.n; edges = length g.edges }

-- The tables. A vertex has a handle, and a handle its outermost blossom. A weight is kept without what the shifts of
-- this search changed of it, `delta` in all.
pub record ForestTables : Type 0 where
  pub hand : List ℕ
  pub top : List Blossom
  pub base : List ℤ
  pub delta : ℤ
  pub label : List Label
  pub mate : List (Option Dart)
  pub link : List Dart
  pub root : Option Blossom
  pub up : List Blossom
  pub after : List Blossom
  pub joint : List Dart
  pub head : List Blossom
  pub parts : List ℕ
  pub rank : List ℕ
  -- The vertices whose outermost blossoms got a place in the tree since the search began.
  pub trail : List Vertex
  -- Where each dart of the graph begins.
  pub near : List Vertex
  -- For graphs of what size there is room to write the matching and the dual down.
  pub room : Option GraphSize

-- The outermost blossom of a vertex, by its handle.
abbrev pub out_of : (hand top : List ℕ) (v : Vertex) → Blossom
out_of hand top v = slice_index top (slice_index hand v)

-- The label of a blossom: numbers past the end are outside.
abbrev pub label_at : (label : List Label) (b : Blossom) → Label
label_at label b = slice_index_or label b Outside

-- The weight of a blossom.
abbrev pub weight_at : (base : List ℤ) (label : List Label) (delta : ℤ) (b : Blossom) → ℤ
weight_at base label delta b = slice_index_or base b (pos 0) +ℤ weight_change (label_at label b) delta

-- The set around a blossom: numbers past the end have none, as outermost blossoms.
abbrev pub up_at : (up : List Blossom) (b : Blossom) → Blossom
up_at up b = slice_index_or up b b

-- Climbing from blossom to blossom comes past b within so many steps.
abbrev pub climbs : (up : ℕ → ℕ) (steps : ℕ) (b from : Blossom) → Bool
climbs up zero b from = from == b
climbs up (suc k) b from = (from == b) || climbs up k b (up from)

-- The forest that the tables stand for: a blossom holds the vertices from which one climbs past it.
abbrev pub forest_of : (t : ForestTables) → Forest
forest_of t = record {
  size = length t.up;
  holds = λ b v. climbs (up_at t.up) (length t.hand) b v;
  out = out_of t.hand t.top;
  weight = weight_at t.base t.label t.delta;
  label = label_at t.label;
  mate = λ b. slice_index_or t.mate b None;
  link = slice_index t.link;
  nest = record {
    up = up_at t.up;
    after = slice_index t.after;
    joint = slice_index t.joint;
    head = slice_index t.head;
    parts = slice_index t.parts;
    rank = slice_index t.rank;
  };
}

-- The forest is valid for a graph, whose darts begin where they do in the forest, and what it comes to can be written
-- down.
pub record IsValidFor (g : WeightedGraph) (t : ForestTables) : Type 0 where
  pub vertices : length t.hand ≡ g.n
  pub darts : length t.near ≡ 2 * length g.edges
  pub ends : (d : Dart) → d < 2 * length g.edges → slice_index t.near d ≡ (darts_of g).near d
  pub valid : IsValid (darts_of g) (forest_of t) t.root
  pub room : t.room ≡ Some (size_of g)

-- Some vertex has b as its outermost blossom.
abbrev pub IsOutermostIn : (t : ForestTables) (b : Blossom) → Type 0
IsOutermostIn t b = (v : Vertex) × (v < length t.hand) × ((forest_of t).out v ≡ b)

-- Twice the cost of an edge less its load.
abbrev pub slack_of : (g : WeightedGraph) (f : Forest) (e : EdgeNumber) → ℤ
slack_of g f e = (pos 2 *ℤ (edge_at g e).cost) -ℤ weight_between f (edge_at g e).u (edge_at g e).v

-- What a tight edge between two outermost blossoms allows, by their labels and mates.
abbrev pub kind_by : (a b : Label) (mate_a mate_b : Option Dart) (same : Bool) → EdgeKind
kind_by Outer Outer mate_a mate_b same = if same then Idle else Shrink
kind_by Outer Outside mate_a mate_b same = if is_some mate_b then Grow else Augment
kind_by Outside Outer mate_a mate_b same = if is_some mate_a then Grow else Augment
kind_by a b mate_a mate_b same = Idle

-- The step that an edge allows.
abbrev pub edge_kind : (g : WeightedGraph) (f : Forest) (e : EdgeNumber) → EdgeKind
edge_kind g f e =
    if int_lt (pos 0) (slack_of g f e) then Loose
    else kind_by (f.label (f.out (edge_at g e).u)) (f.label (f.out (edge_at g e).v))
    (f.mate (f.out (edge_at g e).u)) (f.mate (f.out (edge_at g e).v))
    (f.out (edge_at g e).u == f.out (edge_at g e).v)

-- The dart of an edge that begins in an outer blossom.
abbrev pub dart_by : (l : Label) (e : EdgeNumber) → Dart
dart_by Outer e = 2 * e
dart_by Inner e = 2 * e + 1
dart_by Outside e = 2 * e + 1

abbrev pub outer_dart : (g : WeightedGraph) (f : Forest) (e : EdgeNumber) → Dart
outer_dart g f e = dart_by (f.label (f.out (edge_at g e).u)) e

-- Edges of a blossom, in increasing order and tight, that match each of its vertices but one once, and no other.
pub record MatchesBut (g : WeightedGraph) (f : Forest) (b : Blossom) (v : Vertex) (m : List EdgeNumber) : Type 0 where
  pub increasing : IsIncreasing 0 (length g.edges) m
  pub tight : (k : ℕ) → k < length m → IsTight (darts_of g) f (2 * slice_index m k)
  pub once : (w : Vertex) → w < g.n → count (ends_at w) (map (edge_at g) m)
      ≡ (if f.holds b w then (if w == v then 0 else 1) else 0)
