-- The tables that are built tell the places.
use Rattle.std.proofs.Common.{rules, ◌≡◌, ℕ, ◌-◌, ◌*◌, ◌^◌, ◌<◌, List, length, ap, arith, ◌+◌, ◌/◌, ◌≤◌, Bool, true}
use Rattle.std.proofs.Common.{false, cond, [], ◌∷◌, ◌++◌, length-append, ◌∙◌}
use Rattle.std.proofs.{lemmas.Bool.cases_lt, lemmas.List.get_or_append_left, lemmas.List.get_or_push}
use Rattle.def_layout.specs.Gluings.{Way, south, east, north, west, Gluing, IsSlot}
use Rattle.def_layout.specs.{Lengths.wide, Lengths.high, Lengths.Lengths, Lengths.reach, Lengths.size, Layouts.Layout}
use Rattle.def_layout.specs.{Layouts.gluing_of, Arcs.long_at}
use Rattle.def_written.specs.{Places.ArcSpacing, Places.ONE, Points.use_over}
use Rattle.def_remesh.specs.{Placings.rim_at, Placings.IsRim, Placings.side_parameter, Placings.AreParameters}
use Rattle.def_remesh.specs.{NewPoints.lengths_in, Numberings.AreRunStarts, declared.places.Rim.Rim}
use Rattle.qm_offsets.proofs.Spots.{starts_same, term_room}
use Rattle.written_laws.proofs.{Rims.wide_some, Rims.high_some, Between.div_most, Sides.slot, Sides.over_is}
use Rattle.qm_place.specs.{ArcTables.AreFine, Spots.inner_of, Pushed.on_arc, Pushed.ArePushed, Pushed.IsKept}
use Rattle.{std.specs.Prelude.slice_index, def_math.specs.Counts.count_below, sum_laws.proofs.Sums.count_below_same}

module _ {layout : Layout} {list : List ℕ} (fine : AreFine layout list) where
  -- Each length is short, and so are all arcs together.
  pub lengths_short : (arc : ℕ) → arc < length list → slice_index list arc < 2 ^ 32
  lengths_short arc low =
      omega (arith, term_room (λ a. lengths_in list a - 1) (length layout.arcs) arc (omega (arith, low, fine.long)))

  -- How many points lie in a patch.
  abbrev pub inner : ℕ → ℕ
  inner p = (wide (gluing_of layout) (lengths_in list) p - 1) * (high (gluing_of layout) (lengths_in list) p - 1)

  module _ {spacing : ArcSpacing} (rims : List Rim) {parameters : List ℕ} {count : ℕ} (all : count
      ≡ length layout.patches)
      (are : (p : ℕ) → p < count → IsRim layout (lengths_in list) spacing p (rim_at rims p) parameters) where
    -- Patches are not empty.
    pub rims_some : (p : ℕ) → p < count → (0 < (rim_at rims p).wide) × (0 < (rim_at rims p).high)
    rims_some p low =
        let at : p < length layout.patches = omega arith in omega (
          arith,
          are p low,
          wide_some _ _ fine.whole.paved fine.lengths p at,
          high_some _ _ fine.whole.paved fine.lengths p at,
        )

    inner_is : (p : ℕ) → p < count → inner_of rims p ≡ inner p
    inner_is p low = λ k. ((are p low).wide k - 1) * ((are p low).high k - 1)

    pub inner_short : count_below (inner_of rims) count < 2 ^ 32
    inner_short = omega (arith, ap (count_below inner) all, count_below_same (inner_of rims) inner count inner_is)

    pub inner_starts : {starts : List ℕ} → AreRunStarts (inner_of rims) count starts
        → AreRunStarts inner (length layout.patches) starts
    inner_starts begin = rw (← all) (starts_same (inner_of rims) inner count _ inner_is begin)

-- Lists that grow at their end, and the parameters of a side that are put there arc by arc.

pub pushed_join : {a b c : List ℕ} {n : ℕ} {m : ℕ} {f : ℕ → ℕ} {g : ℕ → ℕ} → ArePushed a b n f → ArePushed b c m g
    → ((k : ℕ) → k < m → g k ≡ f (n + k)) → ArePushed a c (n + m) f
pushed_join {a} {b} {c} {n} {f} p q same = record {
  long = omega arith;
  kept = λ k low. q.kept k (omega arith) ∙ p.kept k low;
  each = λ k low. grind (arith, cases_lt k n, p.each k, q.kept (length a + k), q.each (k - n), same (k - n));
}

-- Another number behind them.
pub pushed_more : {z a b : List ℕ} {n : ℕ} {x : ℕ} {f : ℕ → ℕ} → ArePushed z a n f → b ≡ a ++ x ∷ [] → x ≡ f n
    → ArePushed z b (n + 1) f
pushed_more {z} {a} {b} {n} {x} {f} p same value = rw same (pushed_join p (record {
  long = length-append a _;
  kept = get_or_append_left a _ 0;
  each = λ k low. get_or_push a x 0 _ (omega arith);
}) (λ k low. grind (arith, value)))

pub pushed_kept : {a b : List ℕ} {n : ℕ} {f : ℕ → ℕ} → ArePushed a b n f → IsKept a b
pushed_kept p = record { long = omega arith; kept = p.kept }

pub kept_on : {a b c : List ℕ} → IsKept a b → IsKept b c → IsKept a c
kept_on p q = search rules

-- A parameter is at most that of the end of the arc.
pub part_most : {k : ℕ} (old : ℕ) {new : ℕ} → k ≤ new → 0 < new → ONE * k * old / new ≤ ONE * old
part_most {k} old {new} le some = search (rules, div_most)

-- Parameters that were put behind others, and stay there.
pub parameters_in : (layout : Layout) (new : Lengths) (spacing : ArcSpacing) (p : ℕ) (s : Way) {begin : ℕ} {a : List ℕ}
    {b c : List ℕ} → begin ≡ length a → ArePushed a b (size (gluing_of layout) new p s)
    (side_parameter layout new spacing p s) → IsKept b c → AreParameters layout new spacing p s begin c
parameters_in layout new spacing p s {begin} {a} {c} here p_ed kept = search rules

-- Whether a side runs against its parameter.
abbrev pub is_back : (s : Way) → Bool
is_back south = false
is_back east = false
is_back north = true
is_back west = true

-- Where the parameters of the arc at a slot begin: so much of the side lies before the arc, counted from the same end.
abbrev pub start_by : (l : Gluing) (old : Lengths) (p i : ℕ) (s : Way) → ℕ
start_by l old p i s = cond (is_back s) (size l old p s - reach l old p s i - old (l.use_at p s i).arc)
    (reach l old p s i)

module _ (layout : Layout) (new : Lengths) (spacing : ArcSpacing) (p i : ℕ) where
  abbrev l : Gluing
  l = gluing_of layout

  over : (s : Way) (o : ℕ) → IsSlot l (slot p s i) → o < new (l.use_at p s i).arc
      → use_over l new p s (reach l new p s i + o) ≡ i
  over s o is low = over_is l new (slot p s i) o is low

  -- The parameter of a place of the arc at a slot, counted along the side or against it.
  pub slot_parameter : (s : Way) → IsSlot l (slot p s i) → {o start : ℕ} → o < new (l.use_at p s i).arc
      → start ≡ start_by l (long_at layout.arcs) p i s
      → on_arc spacing start (new (l.use_at p s i).arc) (l.use_at p s i) (is_back s) o
      ≡ side_parameter layout new spacing p s (reach l new p s i + o)
  slot_parameter south is low e = search (rules, over, e)
  slot_parameter east is low e = search (rules, over, e)
  slot_parameter north is low e = search (rules, over, e)
  slot_parameter west is low e = search (rules, over, e)
