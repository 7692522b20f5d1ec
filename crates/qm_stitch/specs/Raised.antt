-- Which arcs get which floors, by marks of the tight ones.
use Rattle.std.specs.Prelude.{◌≡◌, ℕ, ◌+◌, ◌<◌, Bool, true, false, List, length, slice_index, slice_index_or, IsTrue}
use Rattle.def_certtext.specs.declared.certs.Rise.{Rise}
use Rattle.def_flow.specs.declared.limits.TheConstants.{MAX_FLOOR}
use Rattle.def_remesh.specs.Rises.{rise_at}

-- A tight arc is shorter than the greatest floor.
abbrev pub IsShortTight : (tight : List Bool) (lengths : List ℕ) (arc : ℕ) → Type 0
IsShortTight tight lengths arc = IsTrue (slice_index_or tight arc false) × (slice_index lengths arc < MAX_FLOOR)

-- The floor of a short arc rises so, where some tight arc is short, or none.
abbrev pub IsFloorFor : (some tight : Bool) (length floor : ℕ) → Type 0
IsFloorFor true tight length floor = (length < MAX_FLOOR) × IsTrue tight × (floor ≡ length + 1)
IsFloorFor false tight length floor = (length < MAX_FLOOR) × (floor ≡ MAX_FLOOR)

-- That of an arc.
abbrev pub IsFloorOf : (some : Bool) (tight : List Bool) (lengths : List ℕ) (arc floor : ℕ) → Type 0
IsFloorOf some tight lengths arc floor =
    IsFloorFor some (slice_index_or tight arc false) (slice_index lengths arc) floor

-- Each rise has an arc and its floor.
abbrev pub AreFloors : (some : Bool) (tight : List Bool) (lengths : List ℕ) (rises : List Rise) → Type 0
AreFloors some tight lengths rises = (k : ℕ) → k < length rises → ((rise_at rises k).arc < length lengths)
    × IsFloorOf some tight lengths (rise_at rises k).arc (rise_at rises k).floor

-- Their arcs are in order.
abbrev pub AreOrdered : (rises : List Rise) → Type 0
AreOrdered rises = (k : ℕ) → k + 1 < length rises → (rise_at rises k).arc < (rise_at rises (k + 1)).arc

-- The floor of an arc rises.
abbrev pub HasRise : (rises : List Rise) (arc : ℕ) → Type 0
HasRise rises arc = (k : ℕ) × (k < length rises) × ((rise_at rises k).arc ≡ arc)

-- The rises of the arcs before one.
pub record AreRisesUpto (some : Bool) (tight : List Bool) (lengths : List ℕ) (arcs : ℕ) (rises : List Rise) : Type 0
  where
    pub below : (k : ℕ) → k < length rises → (rise_at rises k).arc < arcs
    pub ordered : AreOrdered rises
    pub floors : AreFloors some tight lengths rises
    pub each : (arc floor : ℕ) → arc < arcs → IsFloorOf some tight lengths arc floor → HasRise rises arc
