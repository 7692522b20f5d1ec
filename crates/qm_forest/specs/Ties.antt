-- How a forest's hidden tables are tied to those that contracts see.
use Rattle.std.specs.Prelude.{replicate, ◌⊎◌, ◌≡◌, ◌≢◌, ℕ, suc, ◌+◌, ◌/◌, ◌<◌, ◌≤◌, ◌^◌, Bool, true, false, List}
use Rattle.std.specs.Prelude.{length, count_by, slice_get, slice_index, slice_index_or, is_some, Option, Some, None, ℤ}
use Rattle.std.specs.Prelude.{pos, ◌+ℤ◌, ◌-ℤ◌, ◌*ℤ◌, ◌≤ℤ◌, unsigned_abs, if◌then◌else◌}
use Rattle.def_math.specs.Counts.{count_below}
use Rattle.def_math.specs.Sums.{total_below}
use Rattle.def_matching.specs.Matching.{IsSmallGraph, Vertex, WeightedGraph, edge_at}
use Rattle.def_forest.specs.Darts.{darts_of}
use Rattle.def_forest.specs.Valid.{IsTree}
use Rattle.def_forest.specs.Ways.{IsAlmost}
use Rattle.def_forest.specs.Forests.{Blossom, Forest, live_at, splits, walk, set_at}
use Rattle.def_forest.specs.Steps.{weight_change}
use Rattle.def_forest.specs.Tables.{up_at, ForestTables, GraphSize, forest_of, out_of}
use Rattle.def_forest.specs.Tables.{label_at, weight_at, climbs, IsValidFor}
use Rattle.def_forest.specs.declared.kinds.Label.{Label}
use Rattle.forest_laws.specs.Walks.{listed, writes}
use Rattle.qm_pool.specs.declared.pool.Node.{Node}
use Rattle.def_forest.specs.declared.kinds.Label.TheVariants.{Outside}

-- The sum of the weights of the blossoms around a vertex.
abbrev pub potential : (f : Forest) (v : Vertex) → ℤ
potential f v = total_below (λ b. if f.holds b v then f.weight b else pos 0) f.size

-- What the handle of a vertex adds to its potential.
abbrev pub added : (hand top : List ℕ) (off : List ℤ) (label : List Label) (delta : ℤ) (v : Vertex) → ℤ
added hand top off label delta v = slice_index_or off (slice_index hand v) (pos 0)
    +ℤ weight_change (label_at label (out_of hand top v)) delta

-- The potential of a vertex as the tables tell it.
abbrev pub told : (q : List ℤ) (hand top : List ℕ) (off : List ℤ) (label : List Label) (delta : ℤ) (v : Vertex) → ℤ
told q hand top off label delta v = slice_index_or q v (pos 0) +ℤ added hand top off label delta v

-- One climbs from each vertex to its outermost blossom, and there one stays.
pub record IsClimb (n : ℕ) (up out : ℕ → ℕ) : Type 0 where
  pub ends : (v : Vertex) → v < n → walk up v n ≡ out v
  pub tops : (v : Vertex) → v < n → up (out v) ≡ out v

-- The tables that contracts do not see. A blossom has a leader, a vertex of it, whose number is the handle of all its
-- vertices where it is outermost. Its vertices are a list, from the first to the last.
pub record HiddenTables : Type 0 where
  pub q : List ℤ
  pub off : List ℤ
  pub leader : List Vertex
  pub first : List Vertex
  pub last : List Vertex
  pub following : List Vertex
  -- A mark for each vertex of the trail, and how many entries the trail has room for.
  pub touched : List Bool
  pub room : ℕ
  -- The numbers of sets that are in use.
  pub pool : List (Option Node)

-- The tables are as long as there are vertices, or numbers of blossoms.
pub record HasSizes (t : ForestTables) (h : HiddenTables) : Type 0 where
  pub few : length t.up ≤ 2 ^ 26
  pub vertices : length t.hand ≤ length t.up
  pub top : length t.top ≡ length t.hand
  pub q : length h.q ≡ length t.hand
  pub off : length h.off ≡ length t.top
  pub following : length h.following ≡ length t.hand
  pub touched : length h.touched ≡ length t.hand
  pub base : length t.base ≡ length t.up
  pub label : length t.label ≡ length t.up
  pub mate : length t.mate ≡ length t.up
  pub link : length t.link ≡ length t.up
  pub rank : length t.rank ≡ length t.up
  pub after : length t.after ≡ length t.up
  pub joint : length t.joint ≡ length t.up
  pub head : length t.head ≡ length t.up
  pub parts : length t.parts ≡ length t.up
  pub leader : length h.leader ≡ length t.up
  pub first : length h.first ≡ length t.up
  pub last : length h.last ≡ length t.up
  pub room : length t.hand ≤ h.room

-- So many different vertices follow each other from one to another, and they are those of a set.
pub record IsListed (n : ℕ) (next : ℕ → ℕ) (from to many : ℕ) (set : Vertex → Bool) : Type 0 where
  pub all : (v : Vertex) → v < n → listed next from many v ≡ set v
  pub low : (k : ℕ) → k < many → walk next from k < n
  pub distinct : (i j : ℕ) → i < j → j < many → walk next from i ≢ walk next from j
  pub ends : (k : ℕ) → suc k ≡ many → walk next from k ≡ to
  pub some : 1 ≤ many

-- A number that is in use: that of a vertex, or of a set with parts.
abbrev pub IsInUse : (n : ℕ) (parts : List ℕ) (x : Blossom) → Type 0
IsInUse n parts x = (x < n) ⊎ (slice_index parts x ≢ 0)

-- The tables of the nest fit each other.
pub record IsLaidOut (n size : ℕ) (hand top up rank parts leader first last following : List ℕ) : Type 0 where
  pub hands : (v : Vertex) → v < n → slice_index hand v < length top
  pub outs : (h : ℕ) → h < length top → slice_index top h < size
  pub ups : (b : Blossom) → b < size → slice_index up b < size
  pub climb : IsClimb n (up_at up) (out_of hand top)
  pub led : (v : Vertex) → v < n → slice_index hand v ≡ slice_index leader (out_of hand top v)
  pub leaders : (x : Blossom) → x < size → IsInUse n parts x
      → (slice_index leader x < n) × (climbs (up_at up) n x (slice_index leader x) ≡ true)
  pub members : (x : Blossom) → x < size → IsInUse n parts x
      → IsListed n (slice_index following) (slice_index first x) (slice_index last x) (slice_index rank x)
      (climbs (up_at up) n x)
  -- A blossom in whose list the last of another's is not the last has more vertices than that.
  pub ended : (x y : Blossom) (k : ℕ) → x < size → y < size → IsInUse n parts x → IsInUse n parts y
      → suc k < slice_index rank y → walk (slice_index following) (slice_index first y) k ≡ slice_index last x
      → slice_index rank x < slice_index rank y
  pub idle : (x : Blossom) → n ≤ x → slice_index parts x ≡ 0 → up_at up x ≡ x
  pub around : (x : Blossom) → up_at up x ≢ x → (n ≤ up_at up x) × (slice_index parts (up_at up x) ≢ 0)
  pub rises : (x : Blossom) → up_at up x ≢ x → slice_index rank x < slice_index rank (up_at up x)

-- The sum of the weights of the blossoms that one climbs past from a vertex, and of all.
abbrev pub weights_around : (hand up : List ℕ) (base : List ℤ) (label : List Label) (delta : ℤ) (v : Vertex) → ℤ
weights_around hand up base label delta v =
    total_below (λ b. if climbs (up_at up) (length hand) b v then weight_at base label delta b else pos 0) (length up)

abbrev pub all_weights : (up : List ℕ) (base : List ℤ) (label : List Label) (delta : ℤ) → ℤ
all_weights up base label delta = total_below (weight_at base label delta) (length up)

-- The potentials are told, and no number is large.
pub record HasNumbers (hand top up : List ℕ) (base : List ℤ) (label : List Label) (delta : ℤ) (root : Option ℕ)
    (q off : List ℤ) : Type 0 where
  pub potentials : (v : Vertex) → v < length hand → weights_around hand up base label delta v
      ≡ told q hand top off label delta v
  pub small : (b : Blossom) → unsigned_abs (weight_at base label delta b) ≤ 2 ^ 62
  pub start : ℤ
  pub small_start : unsigned_abs start ≤ 2 ^ 90
  pub moved : (v : Vertex) → v < length hand
      → pos (unsigned_abs (added hand top off label delta v)) ≤ℤ (all_weights up base label delta -ℤ start)
  pub risen : (pos 0 ≤ℤ delta) × (delta ≤ℤ (all_weights up base label delta -ℤ start))
  pub still : root ≡ None → delta ≡ pos 0

-- A vertex is on the trail.
abbrev pub IsOnTrail : (trail : List Vertex) (v : Vertex) → Type 0
IsOnTrail trail v = (k : ℕ) × (k < length trail) × (slice_index trail k ≡ v)

-- Each blossom with a place in the tree has a vertex on the trail, and each vertex is there at most once.
pub record IsTrailed (n : ℕ) (hand top : List ℕ) (label : List Label) (trail : List Vertex) (touched : List Bool)
    : Type 0 where
  pub low : (k : ℕ) → k < length trail → slice_index trail k < n
  pub counted : length trail ≡ count_by (λ mark. mark) touched
  pub marked : (v : Vertex) → slice_index_or touched v false ≡ true → IsOnTrail trail v
  pub named : (b : Blossom) → label_at label b ≢ Outside → (k : ℕ) × (k < length trail)
      × (out_of hand top (slice_index trail k) ≡ b)

-- The sets in use are those that live in the pool.
pub record IsPooled (n size : ℕ) (parts : List ℕ) (pool : List (Option Node)) : Type 0 where
  pub room : n + length pool ≡ size
  pub half : length pool ≡ n / 2
  pub free : (k : ℕ) → slice_get pool k ≡ Some None → slice_index parts (n + k) ≡ 0
  pub live : (k : ℕ) → slice_index parts (n + k) ≢ 0 → (node : Node) × (slice_get pool k ≡ Some (Some node))
  pub vertices : (v : Vertex) → v < n → slice_index parts v ≡ 0
  pub counted : count_by is_some pool ≡ count_below (live_at n (slice_index parts)) size

-- The hidden tables fit those that contracts see.
pub record AreTied (t : ForestTables) (h : HiddenTables) : Type 0 where
  pub sizes : HasSizes t h
  pub nest : IsLaidOut (length t.hand) (length t.up) t.hand t.top t.up t.rank t.parts h.leader h.first h.last
      h.following
  pub numbers : HasNumbers t.hand t.top t.up t.base t.label t.delta t.root h.q h.off
  pub trail : IsTrailed (length t.hand) t.hand t.top t.label t.trail h.touched
  pub pool : IsPooled (length t.hand) (length t.up) t.parts h.pool

-- What stays as long as the forest lives: where darts begin, and the room.
abbrev pub fixed_of : (t : ForestTables) → List Vertex × Option GraphSize
fixed_of t = (t.near, t.room)

-- Only labels, mates, links and weights may differ: the blossoms and the root are the same.
pub record HasSameNest (old new : ForestTables) : Type 0 where
  pub hand : new.hand ≡ old.hand
  pub top : new.top ≡ old.top
  pub up : new.up ≡ old.up
  pub after : new.after ≡ old.after
  pub parts : new.parts ≡ old.parts
  pub root : new.root ≡ old.root
  pub fixed : fixed_of new ≡ fixed_of old

-- So many blossoms of a ring have left the tree, and have no mates.
abbrev pub left_alone : (f : Forest) (front many : ℕ) → Forest
left_alone f front many = record f {
  label = writes f.label (walk f.nest.after front) (λ k. Outside) many;
  mate = writes f.mate (walk f.nest.after front) (λ k. None) many;
}

-- A forest with another label, mate or link at one blossom.
abbrev pub labelled : (f : Forest) (b : Blossom) (l : Label) → Forest
labelled f b l = record f { label = set_at f.label b l }

abbrev pub mated : (f : Forest) (b : Blossom) (m : Option ℕ) → Forest
mated f b m = record f { mate = set_at f.mate b m }

abbrev pub linked : (f : Forest) (b : Blossom) (d : ℕ) → Forest
linked f b d = record f { link = set_at f.link b d }

-- A forest with other labels, or other mates.
abbrev pub relabelled : (f : Forest) (label : Blossom → Label) → Forest
relabelled f label = record f { label = label }

abbrev pub remated : (f : Forest) (mate : Blossom → Option ℕ) → Forest
remated f mate = record f { mate = mate }

-- The matching of a valid forest t is being changed from dart start on; blossom a is to be matched by dart e.
pub record IsOnWay (g : WeightedGraph) (t : ForestTables) (start : ℕ) (mate : Blossom
    → Option ℕ) (a : Blossom) (e : ℕ) : Type 0 where
  pub is : IsSmallGraph g
  pub valid : IsValidFor g t
  pub top : Blossom
  pub root : t.root ≡ Some top
  pub tree : IsTree (darts_of g) (forest_of t) top
  pub almost : IsAlmost (darts_of g) (forest_of t) tree.depth start mate a e

-- What lies around just one of two blossoms: the weights of what one climbs past from the one and not from the other.
abbrev pub apart : (n : ℕ) (up : ℕ → ℕ) (weight : ℕ → ℤ) (size : ℕ) (x y : Blossom) → ℤ
apart n up weight size x y = total_below (λ b. if splits (climbs up n b) x y then weight b else pos 0) size

-- A blossom lies on the way from some vertex to its outermost blossom b.
abbrev pub IsWithin : (t : ForestTables) (b x : Blossom) → Type 0
IsWithin t b x = (v : Vertex) × (v < length t.hand) × ((forest_of t).out v ≡ b) × (i : ℕ) × (walk (up_at t.up) v i ≡ x)

-- Two climbers from u and v have come to x and y, and so much is passed.
pub record IsMeeting (t : ForestTables) (u v x y : Blossom) (load : ℤ) : Type 0 where
  pub sum : load +ℤ apart (length t.hand) (up_at t.up) (forest_of t).weight (length t.up) x y
      ≡ apart (length t.hand) (up_at t.up) (forest_of t).weight (length t.up) u v
  pub first : IsWithin t ((forest_of t).out u) x
  pub second : IsWithin t ((forest_of t).out u) y
  pub low_x : x < length t.up
  pub low_y : y < length t.up
  pub small : unsigned_abs load ≤ 2 ^ 90

-- Where each of the first darts of a graph begins.
pub record AreStarts (g : WeightedGraph) (darts : ℕ) (starts : List Vertex) : Type 0 where
  pub size : length starts ≡ darts
  pub each : (d : ℕ) → d < darts → slice_index starts d ≡ (darts_of g).near d

-- The numbers from 0 on.
pub record IsCounted (n : ℕ) (xs : List ℕ) : Type 0 where
  pub size : length xs ≡ n
  pub each : (k : ℕ) → k < n → slice_index xs k ≡ k

-- A number is lowered to another, if that is less; no other changes but to it.
pub record IsLowered (old new : List ℤ) (place : ℕ) (most : ℤ) : Type 0 where
  pub size : length new ≡ length old
  pub least : slice_index_or new place (pos 0) ≤ℤ most
  pub below : (k : ℕ) → slice_index_or new k (pos 0) ≤ℤ slice_index_or old k (pos 0)
  pub from : (k : ℕ) → (slice_index_or new k (pos 0) ≡ slice_index_or old k (pos 0)) ⊎ (slice_index_or new k
      (pos 0) ≡ most)

-- A number for each vertex, at most the cost of each of the first edges at it, and none large.
pub record HasLowCosts (g : WeightedGraph) (most edges : ℕ) (lows : List ℤ) : Type 0 where
  pub size : length lows ≡ g.n
  pub small : (v : Vertex) → unsigned_abs (slice_index_or lows v (pos 0)) ≤ most
  pub first : (e : ℕ) → e < edges → slice_index_or lows (edge_at g e).u (pos 0) ≤ℤ (edge_at g e).cost
  pub second : (e : ℕ) → e < edges → slice_index_or lows (edge_at g e).v (pos 0) ≤ℤ (edge_at g e).cost

-- No cost of the first edges is above a number, up or down, and it is the least such number.
pub record IsGreatestTo (g : WeightedGraph) (edges most : ℕ) : Type 0 where
  pub above : (e : ℕ) → e < edges → unsigned_abs (edge_at g e).cost ≤ most
  pub least : (c : ℕ) → ((e : ℕ) → e < edges → unsigned_abs (edge_at g e).cost ≤ c) → most ≤ c

-- The tables of a forest of single vertices, of the weights `lows`.
pub record IsFresh (n size : ℕ) (lows : List ℤ) (t : ForestTables) (h : HiddenTables) : Type 0 where
  pub size_is : size ≡ n + n / 2
  pub few : size ≤ 2 ^ 26
  pub hand : IsCounted n t.hand
  pub top : IsCounted n t.top
  pub up : IsCounted size t.up
  pub lists : IsCounted size h.leader × IsCounted size h.first × IsCounted size h.last × IsCounted n h.following
  pub size_lows : length lows ≡ n
  pub kept : h.q ≡ lows
  pub offs : h.off ≡ replicate n (pos 0)
  pub size_base : length t.base ≡ size
  pub base : (k : ℕ) → slice_index_or t.base k (pos 0) ≡ slice_index_or lows k (pos 0)
  pub label : t.label ≡ replicate size Outside
  pub mate : t.mate ≡ replicate size None
  pub parts : t.parts ≡ replicate size 0
  pub rank : t.rank ≡ replicate size 1
  pub sizes : (length t.link ≡ size) × (length t.after ≡ size) × (length t.joint ≡ size) × (length t.head ≡ size)
  pub delta : t.delta ≡ pos 0
  pub root : t.root ≡ None
  pub trail : length t.trail ≡ 0
  pub touched : h.touched ≡ replicate n false
  pub room : n ≤ h.room
  pub pool : h.pool ≡ replicate (n / 2) None
