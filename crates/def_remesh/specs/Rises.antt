-- When floors rise by need: the arcs along doubled edges, and which floors they may get.
use Rattle.std.specs.Prelude.{◌≡◌, ◌⊎◌, ℕ, ◌+◌, ◌<◌, ◌≤◌, ◌==◌, cond, List, [], ◌∷◌, length, slice_index_or}
use Rattle.def_certtext.specs.declared.certs.Rise.{Rise}
use Rattle.def_flow.specs.declared.limits.TheConstants.{MAX_FLOOR}
use Rattle.def_layout.specs.Gluings.{Way, south, east, north, west, Gluing}
use Rattle.def_layout.specs.Lengths.{Lengths}
use Rattle.def_written.specs.Edges.{Edge, on_arc, flat, steep, IsEdge, HasEnds, IsDoubledAt}

-- An arc lies on a side of a patch.
abbrev pub IsOnSide : (gluing : Gluing) (patch : ℕ) (side : Way) (arc : ℕ) → Type 0
IsOnSide gluing patch side arc =
    (at : ℕ) × (at < gluing.many patch side) × ((gluing.use_at patch side at).arc ≡ arc)

-- An edge runs along an arc: it lies on it, or inside a patch between two sides, of which one has the arc.
abbrev pub RunsAlong : (gluing : Gluing) (edge : Edge) (arc : ℕ) → Type 0
RunsAlong gluing (on_arc a k) arc = a ≡ arc
RunsAlong gluing (flat p i j) arc = IsOnSide gluing p south arc ⊎ IsOnSide gluing p north arc
RunsAlong gluing (steep p i j) arc = IsOnSide gluing p east arc ⊎ IsOnSide gluing p west arc

-- An arc is tight where a doubled edge runs along it.
pub record IsTightArc (gluing : Gluing) (lengths : Lengths) (arc : ℕ) : Type 0 where
  pub edge : Edge
  pub u : ℕ
  pub v : ℕ
  pub is : IsEdge gluing lengths edge
  pub ends : HasEnds gluing lengths edge u v
  pub doubled : IsDoubledAt gluing lengths u v
  pub along : RunsAlong gluing edge arc

-- No tight arc is shorter than the greatest floor.
abbrev pub AreTightLong : (gluing : Gluing) (lengths : Lengths) → Type 0
AreTightLong gluing lengths = (arc : ℕ) → arc < gluing.arcs → IsTightArc gluing lengths arc → MAX_FLOOR ≤ lengths arc

-- The floor of a short arc may rise: that of a tight one to one more than its length; where no tight arc is short, that
-- of each to the greatest.
pub record IsNeeded (gluing : Gluing) (lengths : Lengths) (rise : Rise) : Type 0 where
  pub there : rise.arc < gluing.arcs
  pub short : lengths rise.arc < rise.floor
  pub low : rise.floor ≤ MAX_FLOOR
  pub reason : (IsTightArc gluing lengths rise.arc × (rise.floor ≡ lengths rise.arc + 1))
      ⊎ (AreTightLong gluing lengths × (rise.floor ≡ MAX_FLOOR))

-- The rise at a place; past the last one, one that means nothing.
abbrev pub rise_at : (rises : List Rise) (at : ℕ) → Rise
rise_at rises at = slice_index_or rises at (record { arc = 0; floor = 0 })

-- Floors rise so: at least one, each as needed, in the order of their arcs.
pub record AreNeeded (gluing : Gluing) (lengths : Lengths) (rises : List Rise) : Type 0 where
  pub some : 0 < length rises
  pub ordered : (k : ℕ) → k + 1 < length rises → (rise_at rises k).arc < (rise_at rises (k + 1)).arc
  pub each : (k : ℕ) → k < length rises → IsNeeded gluing lengths (rise_at rises k)

-- The floors after they rose.
abbrev pub risen_floors : (rises : List Rise) (floors : Lengths) → Lengths
risen_floors [] floors arc = floors arc
risen_floors (rise ∷ rises) floors arc = cond (arc == rise.arc) rise.floor (risen_floors rises floors arc)
