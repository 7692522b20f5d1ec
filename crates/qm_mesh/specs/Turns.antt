-- Turning from corner to corner round a vertex, by the table of partners alone.
use Rattle.std.specs.Prelude.{◌≡◌, ◌⊎◌, ℕ, zero, suc, ◌%◌, ◌*◌, ◌<◌, ◌≤◌, length, Bool, true, false, cond, not, ◌==◌}
use Rattle.std.specs.Prelude.{List, slice_index, slice_index_or, Option, Some, None}
use Rattle.def_mesh.specs.Darts.{next_of, prev_of}
use Rattle.def_mesh.specs.declared.TheConstants.{MAX_FACES}

-- The dart of the edge that is crossed in turning left from the corner at d, or right.
abbrev pub edge_beside : (left : Bool) (d : ℕ) → ℕ
edge_beside left d = cond left (prev_of d) d

-- The corner behind an edge whose partner is t.
abbrev pub behind : (left : Bool) (edge partner : ℕ) → Option ℕ
behind left edge t = cond (t == edge) None (Some (cond left t (next_of t)))

-- The corner beside that at d.
abbrev pub beside_of : (left : Bool) (twins : List ℕ) (d : ℕ) → Option ℕ
beside_of left twins d = behind left (edge_beside left d) (slice_index twins (edge_beside left d))

-- The mark of d is set.
abbrev pub IsSeen : (seen : List Bool) (d : ℕ) → Type 0
IsSeen seen d = slice_index_or seen d false ≡ true

-- So many turns lead from d to e.
abbrev pub Reaches : (twins : List ℕ) (d e turns : ℕ) → Type 0
Reaches twins d e zero = d ≡ e
Reaches twins d e (suc n) = (c : ℕ) × Reaches twins d c n × ((left : Bool) × (beside_of left twins c ≡ Some e))

-- All these corners are marked.
abbrev pub AreSeen : (seen : List Bool) (fan : List ℕ) → Type 0
AreSeen seen fan = (t : ℕ) → t < length fan → IsSeen seen (slice_index fan t)

-- One of these corners is not marked.
abbrev pub HasUnseen : (seen : List Bool) (fan : List ℕ) → Type 0
HasUnseen seen fan = (t : ℕ) × (t < length fan) × (slice_index_or seen (slice_index fan t) false ≡ false)

-- What lies on this side of d is marked.
abbrev pub IsClosed : (left : Bool) (twins : List ℕ) (seen : List Bool) (d : ℕ) → Type 0
IsClosed left twins seen d = (e : ℕ) → beside_of left twins d ≡ Some e → IsSeen seen e

-- Corner d lies on this side of a marked corner.
abbrev pub IsBehind : (left : Bool) (twins : List ℕ) (seen : List Bool) (d : ℕ) → Type 0
IsBehind left twins seen d = (c : ℕ) × IsSeen seen c × (beside_of left twins c ≡ Some d)

-- A walk from the corner at start, always to one side: it marks what it meets until it meets a mark or the boundary.
pub record IsWalk (left : Bool) (twins : List ℕ) (start : ℕ) (old new : List Bool) : Type 0 where
  pub grown : (d : ℕ) → IsSeen old d → IsSeen new d
  pub start_closed : IsClosed left twins new start
  pub closed : (d : ℕ) → IsSeen new d → slice_index_or old d false ≡ false → IsClosed left twins new d
  pub behind : (d : ℕ) → IsSeen new d → slice_index_or old d false ≡ false → IsBehind left twins new d
  pub reached : (d : ℕ) → IsSeen new d → slice_index_or old d false ≡ false → (n : ℕ) × Reaches twins start d n

-- The corners that turns from start reach are marked, and what is beside a new mark is marked too.
pub record IsVisit (twins : List ℕ) (start : ℕ) (old new : List Bool) : Type 0 where
  pub grown : (d : ℕ) → IsSeen old d → IsSeen new d
  pub started : IsSeen new start
  pub closed : (left : Bool) (d : ℕ) → IsSeen new d → slice_index_or old d false ≡ false
      → IsClosed left twins new d ⊎ IsBehind (not left) twins new d
  pub reached : (d : ℕ) → IsSeen new d → slice_index_or old d false ≡ false → (n : ℕ) × Reaches twins start d n

-- Corner e lies on this side of d and is not marked.
pub record IsUnseen (left : Bool) (twins : List ℕ) (seen : List Bool) (d e : ℕ) : Type 0 where
  pub low : e < length twins
  pub beside : beside_of left twins d ≡ Some e
  pub unseen : slice_index_or seen e false ≡ false

-- Each entry is a place of the table, which has four places for each face.
pub record ArePlaces (twins : List ℕ) : Type 0 where
  pub fours : length twins % 4 ≡ 0
  pub few : length twins ≤ 4 * MAX_FACES
  pub low : (d : ℕ) → d < length twins → slice_index twins d < length twins
