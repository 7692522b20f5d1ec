-- Remedies of doubled pairs: arcs along one of their edges, and what one edge more on each short one costs.
use Rattle.std.specs.Prelude.{◌≡◌, ◌≢◌, ◌⊎◌, ◌↔◌, ℕ, ◌+◌, ◌-◌, ◌<◌, nat_lt, Bool, false, cond, IsTrue, List}
use Rattle.std.specs.Prelude.{length, slice_index_or, ℤ, pos, ◌≤ℤ◌}
use Rattle.std.specs.List.{Contains}
use Rattle.def_certtext.specs.declared.certs.Rise.{Rise}
use Rattle.def_flow.specs.declared.limits.TheConstants.{MAX_FLOOR}
use Rattle.def_layout.specs.Lengths.{Lengths}
use Rattle.def_layout.specs.Layouts.{gluing_of, layout_of, Layout}
use Rattle.def_layout.specs.declared.tmesh.SideArc.{SideArc}
use Rattle.def_math.specs.Sums.{total}
use Rattle.def_remesh.specs.Numberings.{used_at}
use Rattle.def_written.specs.Edges.{Edge, on_arc, flat, steep}
use Rattle.qm_offsets.specs.Fours.{arcs_on}
use Rattle.qm_stitch.specs.Lengthened.{gluing_in, lengths_by}
use Rattle.qm_stitch.specs.Raised.{HasRise}
use Rattle.qm_stitch.specs.Rims.{key_of, line_edge}
use Rattle.qm_stitch.specs.Tight.{IsDoubled}
use Rattle.qm_stitch.specs.declared.priced.Priced.{Priced}
use Rattle.qm_stitch.specs.declared.rim.Line.{Line}
use Rattle.qm_stitch.specs.declared.remedy.Remedy.{Remedy}
use Rattle.qm_stitch.specs.declared.remedy.Run.{Run}
use Rattle.qm_stitch.specs.declared.remedy.Run.TheVariants.{Arc, Side}

-- The arcs of a run lie along an edge: the arc on which it lies, or those on a side of its patch.
abbrev pub IsRunOf : (edge : Edge) (run : Run) → Type 0
IsRunOf (on_arc a k) run = run ≡ Arc a
IsRunOf (flat p i j) run = (run ≡ Side p 0) ⊎ (run ≡ Side p 2)
IsRunOf (steep p i j) run = (run ≡ Side p 1) ⊎ (run ≡ Side p 3)

-- An arc of a run.
abbrev pub IsArcOf : (layout : Layout) (run : Run) (arc : ℕ) → Type 0
IsArcOf layout (Arc a) arc = a ≡ arc
IsArcOf layout (Side p s) arc =
    (at : ℕ) × (at < length (arcs_on layout p s)) × ((used_at (arcs_on layout p s) at).arc ≡ arc)

-- Some arc of it is short.
abbrev pub IsShortRun : (layout : Layout) (lengths : Lengths) (run : Run) → Type 0
IsShortRun layout lengths run = (arc : ℕ) × IsArcOf layout run arc × (lengths arc < MAX_FLOOR)

-- What one edge more on an arc costs, where it is short.
abbrev pub short_price : (lengths : Lengths) (prices : List ℤ) (arc : ℕ) → ℤ
short_price lengths prices arc = cond (nat_lt (lengths arc) MAX_FLOOR) (slice_index_or prices arc (pos 0)) (pos 0)

-- What one edge more on each short arc in use costs, and on those of a run.
abbrev pub price_along : (lengths : Lengths) (prices : List ℤ) (side : List SideArc) → ℤ
price_along lengths prices side = total (λ (used : SideArc). short_price lengths prices used.arc) side

abbrev pub price_of : (layout : Layout) (lengths : Lengths) (prices : List ℤ) (run : Run) → ℤ
price_of layout lengths prices (Arc a) = short_price lengths prices a
price_of layout lengths prices (Side p s) = price_along lengths prices (arcs_on layout p s)

-- A remedy by an edge of a doubled pair.
pub record IsRemedyBy (layout : Layout) (lengths : Lengths) (prices : List ℤ) (edge : Edge) (remedy : Remedy) : Type 0
  where
    pub doubled : IsDoubled (gluing_of layout) lengths edge
    pub key : remedy.key ≡ key_of (gluing_of layout) lengths edge
    pub run : IsRunOf edge remedy.run
    pub short : IsShortRun layout lengths remedy.run
    pub price : remedy.price ≡ price_of layout lengths prices remedy.run

abbrev pub IsRemedy : (layout : Layout) (lengths : Lengths) (prices : List ℤ) (remedy : Remedy) → Type 0
IsRemedy layout lengths prices remedy = (edge : Edge) × IsRemedyBy layout lengths prices edge remedy

-- No remedy of the same pair is cheaper.
pub record IsCheapest (layout : Layout) (lengths : Lengths) (prices : List ℤ) (remedy : Remedy) : Type 0 where
  pub is : IsRemedy layout lengths prices remedy
  pub least : (other : Remedy) → IsRemedy layout lengths prices other → other.key ≡ remedy.key
      → remedy.price ≤ℤ other.price

-- From each pair that has remedies one of the cheapest is taken, whose short arcs rise, and where some pair has, no
-- other arcs do.
pub record FollowCheapest (layout : Layout) (lengths : Lengths) (prices : List ℤ) (rises : List Rise) : Type 0 where
  pub each : (some : Remedy) → IsRemedy layout lengths prices some
      → (remedy : Remedy) × IsCheapest layout lengths prices remedy × (remedy.key ≡ some.key)
      × ((arc : ℕ) → IsArcOf layout remedy.run arc → lengths arc < MAX_FLOOR → HasRise rises arc)
  pub only : (some : Remedy) → IsRemedy layout lengths prices some → (arc : ℕ) → HasRise rises arc
      → (remedy : Remedy) × IsCheapest layout lengths prices remedy × IsArcOf layout remedy.run arc

-- The remedies of a list are those that were in it, and these.
abbrev pub AddsRemedies : (old new : List Remedy) (more : Remedy → Type 0) → Type 0
AddsRemedies old new more = (remedy : Remedy) → Contains new remedy ↔ (Contains old remedy ⊎ more remedy)

-- A remedy over what is priced, and one along these arcs.
abbrev pub IsPricedRemedy : (priced : Priced) (remedy : Remedy) → Type 0
IsPricedRemedy priced remedy =
    IsRemedy (layout_of priced.keyed.numbered.t.now) (lengths_by priced.keyed.numbered) priced.prices.now remedy

abbrev pub IsAlong : (priced : Priced) (run : Run) (remedy : Remedy) → Type 0
IsAlong priced run remedy = (remedy.run ≡ run) × IsPricedRemedy priced remedy

-- One along the first arcs, along the first sides of a patch, and along those of the first patches.
abbrev pub IsAlongArcs : (priced : Priced) (arcs : ℕ) (remedy : Remedy) → Type 0
IsAlongArcs priced arcs remedy = (arc : ℕ) × (arc < arcs) × IsAlong priced (Arc arc) remedy

abbrev pub IsAlongSides : (priced : Priced) (patch sides : ℕ) (remedy : Remedy) → Type 0
IsAlongSides priced patch sides remedy = (side : ℕ) × (side < sides) × IsAlong priced (Side patch side) remedy

abbrev pub IsAlongPatches : (priced : Priced) (patches : ℕ) (remedy : Remedy) → Type 0
IsAlongPatches priced patches remedy = (patch : ℕ) × (patch < patches) × IsAlongSides priced patch 4 remedy

-- Some arc in use is short.
abbrev pub IsSomeShort : (lengths : Lengths) (uses : List SideArc) → Type 0
IsSomeShort lengths uses =
    (at : ℕ) × (at < length uses) × (lengths (used_at uses at).arc < MAX_FLOOR)

-- A remedy by a doubled edge of a line.
pub record IsByLine (priced : Priced) (line : Line) (cost : ℤ) (along : Run) (remedy : Remedy) : Type 0 where
  pub at : ℕ
  pub doubled : IsDoubled (gluing_in priced.keyed.numbered) (lengths_by priced.keyed.numbered)
      (line_edge line.upright line.patch line.number at)
  pub key : remedy.key ≡ key_of (gluing_in priced.keyed.numbered) (lengths_by priced.keyed.numbered)
      (line_edge line.upright line.patch line.number at)
  pub price : remedy.price ≡ cost
  pub run : remedy.run ≡ along

-- Arcs that there are.
abbrev pub IsRunIn : (layout : Layout) (run : Run) → Type 0
IsRunIn layout (Arc a) = a < length layout.arcs
IsRunIn layout (Side p s) = (p < length layout.patches) × (s < 4)

-- A remedy of a list than which none of its pair there is cheaper.
pub record IsCheapestIn (remedies : List Remedy) (remedy : Remedy) : Type 0 where
  pub has : Contains remedies remedy
  pub least : (other : Remedy) → Contains remedies other → other.key ≡ remedy.key → remedy.price ≤ℤ other.price

-- The remedy at a place of a list; past the last one, one that means nothing.
abbrev pub remedy_at : (remedies : List Remedy) (k : ℕ) → Remedy
remedy_at remedies k = slice_index_or remedies k (record { key = 0; price = pos 0; run = Arc 0 })

-- Remedies stand in the order of their keys, and those of one key in that of their prices.
abbrev pub AreInOrder : (remedies : List Remedy) → Type 0
AreInOrder remedies = (k : ℕ) → k + 1 < length remedies
    → ((remedy_at remedies k).key < (remedy_at remedies (k + 1)).key)
    ⊎ (((remedy_at remedies k).key ≡ (remedy_at remedies (k + 1)).key)
    × ((remedy_at remedies k).price ≤ℤ (remedy_at remedies (k + 1)).price))

-- Its place is the first one of its pair in a list in order, and it has the arc.
abbrev pub IsFirstWith : (layout : Layout) (remedies : List Remedy) (k arc : ℕ) → Type 0
IsFirstWith layout remedies k arc = ((k ≡ 0) ⊎ ((remedy_at remedies (k - 1)).key ≢ (remedy_at remedies k).key))
    × IsArcOf layout (remedy_at remedies k).run arc

-- One of the first places is such a one.
abbrev pub IsFirstUpto : (layout : Layout) (remedies : List Remedy) (places arc : ℕ) → Type 0
IsFirstUpto layout remedies places arc = (k : ℕ) × (k < places) × IsFirstWith layout remedies k arc

-- Marks of the arcs of cheapest remedies: each is of one, and each pair with a remedy has one all of whose arcs are
-- marked.
pub record AreMarksOf (layout : Layout) (remedies : List Remedy) (marks : List Bool) : Type 0 where
  pub long : length marks ≡ length layout.arcs
  pub only : (arc : ℕ) → arc < length layout.arcs → IsTrue (slice_index_or marks arc false)
      → (remedy : Remedy) × IsCheapestIn remedies remedy × IsArcOf layout remedy.run arc
  pub each : (some : Remedy) → Contains remedies some → (remedy : Remedy) × IsCheapestIn remedies remedy
      × (remedy.key ≡ some.key)
      × ((arc : ℕ) → arc < length layout.arcs → IsArcOf layout remedy.run arc → IsTrue (slice_index_or marks arc false))
