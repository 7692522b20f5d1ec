-- Corners that are linked with the next one round their patch, as tables have them.
use Rattle.std.specs.Prelude.{◌≡◌, ℕ, ◌+◌, ◌-◌, ◌<◌, List, length, slice_index_or, slice_set}
use Rattle.def_mesh.specs.HalfEdges.{HalfEdges}
use Rattle.def_cut.specs.Cuts.{Cut, IsCorner}
use Rattle.def_cut.specs.Steps.{easts}
use Rattle.def_merge.specs.Joins.{IsWholeSide}
use Rattle.qm_merge.specs.Walks.{IsNextCorner}
use Rattle.qm_merge.specs.declared.links.Links.{Links}
use Rattle.qm_merge.specs.declared.links.Round.{Round}

-- An entry of a table.
abbrev pub at : (xs : List ℕ) (d : ℕ) → ℕ
at xs d = slice_index_or xs d 0

-- The corners below n have their next ones, and their sides have so many edges.
pub record AreSides (mesh : HalfEdges) (cut : Cut) (next long : List ℕ) (n : ℕ) : Type 0 where
  pub nexts : length next ≡ mesh.count
  pub longs : length long ≡ mesh.count
  pub side : (c : ℕ) → c < n → IsCorner mesh cut c → IsWholeSide mesh cut c (at long c)
  pub after : (c : ℕ) → c < n → IsCorner mesh cut c → at next c ≡ mesh.next (easts mesh c (at long c - 1))

-- All corners have them.
abbrev pub AreLinks : (mesh : HalfEdges) (cut : Cut) (links : Links) → Type 0
AreLinks mesh cut links = AreSides mesh cut links.next.items links.long.items mesh.count

-- A dart for each name.
abbrev pub AreStarts : (starts : List ℕ) (count : ℕ) → Type 0
AreStarts starts count = (length starts ≡ count) × ((d : ℕ) → d < count → at starts d < count)

-- Links of all corners, with a dart for each name.
pub record AreTied (mesh : HalfEdges) (cut : Cut) (links : Links) : Type 0 where
  pub linked : AreLinks mesh cut links
  pub starts : AreStarts links.starts.items mesh.count

-- The corners that follow s round its patch.
pub record IsRound (mesh : HalfEdges) (cut : Cut) (s : ℕ) (round : Round) : Type 0 where
  pub second : IsNextCorner mesh cut s round.second
  pub third : IsNextCorner mesh cut round.second round.third
  pub fourth : IsNextCorner mesh cut round.third round.fourth

-- Two patches are one: the side before the first corner of each goes on along the second side of the other.
pub record IsJoined (old new : Links) (near far : Round) : Type 0 where
  pub next : new.next.items
      ≡ slice_set (slice_set old.next.items near.fourth far.third) far.fourth near.third
  pub long : new.long.items
      ≡ slice_set (slice_set old.long.items near.fourth (at old.long.items near.fourth + at old.long.items far.second))
      far.fourth (at old.long.items far.fourth + at old.long.items near.second)
  pub starts : new.starts.items ≡ old.starts.items

-- Its tables have entries for these corners, whose sums are no greater than a limit.
pub record HasRoom (links : Links) (near far : Round) (limit : ℕ) : Type 0 where
  pub near_next : near.fourth < length links.next.items
  pub far_next : far.fourth < length links.next.items
  pub near_long : near.fourth < length links.long.items
  pub far_long : far.fourth < length links.long.items
  pub near_second : near.second < length links.long.items
  pub far_second : far.second < length links.long.items
  pub near_sum : at links.long.items near.fourth + at links.long.items far.second < limit
  pub far_sum : at links.long.items far.fourth + at links.long.items near.second < limit
