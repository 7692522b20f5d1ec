-- Numbers that fit their type, and products of such.
use Rattle.std.proofs.Common.{rules, ◌≡◌, ℕ, suc, ◌-◌, ◌*◌, ◌^◌, ◌<◌, ◌≤◌, ℤ, pos, negsuc, ◌+ℤ◌, ◌-ℤ◌, ◌*ℤ◌, to_z}
use Rattle.std.proofs.Common.{of_z, ◌∙◌, ap, arith, ◌+◌, ◌/◌, ◌%◌, List, length, Option, sym, subst, FitsSigned}
use Rattle.std.proofs.{lemmas.Int.ints, lemmas.Nat.mul-le, Math.Nat.mul_comm}
use Rattle.std.specs.{Prelude.unsigned_abs, Prelude.neg_ℤ, Int.int_div_euclid, Int.w64, Int.w128}
use Rattle.def_written.specs.Places.{on_the_way, ONE, blend, ArcSpacing}
use Rattle.def_written.specs.{Points.Point, Points.node, Points.along, Points.inside, Points.IsPoint}
use Rattle.def_written.specs.{Numbers.before_arc, Numbers.before_patch, Numbers.vertices, Spacings.IsSpacing}
use Rattle.written_laws.proofs.{Between.way_within, Between.blend_within, Spacings.even_edge, Spacings.run_here}
use Rattle.written_laws.proofs.{EdgeNumbers.in_rows, Rims.wide_some, Rims.high_some}
use Rattle.def_layout.specs.Gluings.{Gluing, Way, south, east, north, west}
use Rattle.def_layout.specs.{Lengths.Lengths, Lengths.size, Lengths.wide, Lengths.high, Layouts.Layout}
use Rattle.def_layout.specs.{Layouts.gluing_of, Layouts.vertex_at, Arcs.long_at}
use Rattle.def_map.specs.declared.spot.Spot.TheVariants.{AtVertex, InFace, OnEdge}
use Rattle.def_map.specs.{Spots.edge_spot, Spots.face_spot, Spots.spot_at, Spots.spot_of}
use Rattle.def_map.specs.{declared.spot.EdgeSpot.EdgeSpot, declared.spot.FaceSpot.FaceSpot}
use Rattle.def_remesh.specs.{NewPoints.lengths_in, NewPoints.point_at, Placings.spacing_in, Placings.ArePlaces}
use Rattle.def_remesh.specs.{Spaced.spacing_by, declared.places.PlaceTables.PlaceTables}
use Rattle.map_laws.proofs.{Cells.is_point, Parameters.ahead_end, Parameters.back_end, Parameters.u_upto}
use Rattle.map_laws.proofs.{Parameters.v_upto, OldPoints.spacing_is}
use Rattle.embedding_laws.proofs.Bounds.{side_few, vertices_few}
use Rattle.qm_offsets.proofs.{Spots.term_room, Whole.laid_of, Whole.lengths_of}
use Rattle.qm_place.{proofs.Rims.old_few, proofs.Rims.old_short, specs.Placed.ArePlaced, specs.Placed.IsSized}
use Rattle.qm_place.specs.Spots.{grid_point, HasEnds, IsAlong, IsInside, IsShort, IsSmall}
use Rattle.{def_math.specs.Runs.run_at, def_mesh.specs.Faces.Faces, def_layoutnet.specs.MeshLayouts.IsSomeLayout}

-- What is cast comes back.
pub kept : (z : ℤ) → unsigned_abs z ≤ 2 ^ 120 → to_z w128 (of_z w128 z) ≡ z
kept z small = omega (arith, ints, small)

pub kept_half : (z : ℤ) → unsigned_abs z ≤ 2 ^ 60 → to_z w64 (of_z w64 z) ≡ z
kept_half z small = omega (arith, ints, small)

pub natural : {n : ℕ} → n ≤ 2 ^ 120 → to_z w128 n ≡ pos n
natural small = omega (arith, ints, small)

-- The size of a product.
pub times_few : (k m : ℕ) (z : ℤ) (b : ℕ) → k ≤ m → unsigned_abs z ≤ b → unsigned_abs (pos k *ℤ z) ≤ m * b
times_few k m (pos n) b k_le z_le = mul-le k n m b k_le z_le
times_few k m (negsuc n) b k_le z_le = omega (arith, ints, mul-le k (suc n) m b k_le (omega (arith, z_le)))

-- A number within the bounds of a coordinate.
abbrev IsMicro : ℤ → Type 0
IsMicro z = unsigned_abs z ≤ 999999999999999

-- A part of the way is no longer than the way may be.
pub part_few : (way : ℤ) {some parts : ℕ} → some < parts → unsigned_abs way ≤ 2 ^ 52
    → unsigned_abs (int_div_euclid ((pos (2 * some) *ℤ way) +ℤ pos parts) (pos (2 * parts))) ≤ 2 ^ 52
part_few way {some} {parts} less small =
    let same : way -ℤ pos 0 ≡ way = omega (arith, ints) in
    let b = way_within (pos 0) way (neg_ℤ (pos (2 ^ 52))) (pos (2 ^ 52)) some parts (omega arith) (omega arith)
    (omega (arith, ints)) (omega (arith, ints)) (omega (arith, ints)) (omega (arith, ints)) in
    let e = ap (λ (z : ℤ). int_div_euclid ((pos (2 * some) *ℤ z) +ℤ pos parts) (pos (2 * parts))) same in
    omega (arith, ints, b.0, b.1, e)

-- Between coordinates lies a coordinate.
pub way_micro : (p q : ℤ) {some parts : ℕ} → some < parts → IsMicro p → IsMicro q → IsMicro (on_the_way p q some parts)
way_micro p q {some} {parts} less p_small q_small =
    let b = way_within p q (neg_ℤ (pos 999999999999999)) (pos 999999999999999) some parts (omega arith) (omega arith)
    (omega (arith, ints)) (omega (arith, ints)) (omega (arith, ints)) (omega (arith, ints)) in
    omega (arith, ints, b.0, b.1)

pub blend_micro : {s t : ℕ} (a b c d : ℤ) → s ≤ ONE → t ≤ ONE → IsMicro a → IsMicro b → IsMicro c → IsMicro d
    → IsMicro (blend s t a b c d)
blend_micro {s} {t} a b c d s_le t_le a_small b_small c_small d_small =
    let e = blend_within s t a b c d (neg_ℤ (pos 999999999999999)) (pos 999999999999999) s_le t_le
    (omega (arith, ints)) (omega (arith, ints)) (omega (arith, ints)) (omega (arith, ints))
    (omega (arith, ints)) (omega (arith, ints)) (omega (arith, ints)) (omega (arith, ints)) in
    omega (arith, ints, e.0, e.1)

-- What the calls of `weighed`, `part_of` and `blend` compute.
pub weighed_is : {a b f g : ℕ} (n : ℤ) {m : ℤ} → f ≡ a → g ≡ b → m ≡ to_z w64 (of_z w64 n) → a ≤ ONE → b ≤ ONE
    → unsigned_abs n < 2 ^ 52 → (to_z w128 (of_z w128 (to_z w128 (f * g) *ℤ to_z w128 (of_z w128 m))) ≡ pos (a * b) *ℤ
    n) × (unsigned_abs (to_z w128 (of_z w128 (to_z w128 (f * g) *ℤ to_z w128 (of_z w128 m)))) ≤ 2 ^ 116)
weighed_is {a} {b} {f} {g} n {m} f_is g_is m_is a_le b_le small = (value, rw value (omega (arith, few)))
  where
    product : a * b ≤ ONE * ONE
    product = mul-le a b ONE ONE a_le b_le

    few : unsigned_abs (pos (a * b) *ℤ n) ≤ (ONE * ONE) * 2 ^ 52
    few = times_few (a * b) (ONE * ONE) n (2 ^ 52) product (omega arith)

    number : to_z w128 (of_z w128 m) ≡ n
    number = omega (arith, ints)

    value : to_z w128 (of_z w128 (to_z w128 (f * g) *ℤ to_z w128 (of_z w128 m))) ≡ pos (a * b) *ℤ n
    value = rw (f_is, g_is, number, natural {n = a * b} (omega (arith, product))) (kept _ (omega (arith, few)))

pub part_is : (way : ℤ) {q twice one double : ℤ} (some : ℕ) {parts : ℕ} → (some < parts) → parts ≤ ONE
    → unsigned_abs way < 2 ^ 52 → twice ≡ pos (some * 2) *ℤ to_z w64 (of_z w64 way) → one ≡ pos parts
    → double ≡ pos (2 * parts)
    → q ≡ int_div_euclid (to_z w128 (of_z w128 (to_z w128 (of_z w128 twice) +ℤ to_z w128 (of_z w128 one))))
    (to_z w128 (of_z w128 double)) → (to_z w64 (of_z w64 (to_z w128 (of_z w128 q))) ≡ int_div_euclid
    ((pos (2 * some) *ℤ way) +ℤ pos parts) (pos (2 * parts))) × (unsigned_abs q ≤ 2 ^ 52)
part_is way {q} {twice} {one} {double} some {parts} less le small twice_is one_is double_is q_is =
    (rw (kept q (omega (arith, few)), kept_half q (omega (arith, few))) quotient, few)
  where
    plain : twice ≡ pos (2 * some) *ℤ way
    plain = search rules

    twice_few : unsigned_abs (pos (2 * some) *ℤ way) ≤ 2 ^ 33 * 2 ^ 52
    twice_few = times_few (2 * some) (2 ^ 33) way (2 ^ 52) (omega (arith, less, le)) (omega arith)

    sum : to_z w128 (of_z w128 (to_z w128 (of_z w128 twice) +ℤ to_z w128 (of_z w128 one)))
        ≡ (pos (2 * some) *ℤ way) +ℤ pos parts
    sum = omega (arith, ints, plain, twice_few)

    quotient : q ≡ int_div_euclid ((pos (2 * some) *ℤ way) +ℤ pos parts) (pos (2 * parts))
    quotient = rw (sum, double_is, kept (pos (2 * parts)) (omega (arith, ints, le))) at q_is

    few : unsigned_abs q ≤ 2 ^ 52
    few = omega (arith, part_few way less (omega arith), ap unsigned_abs quotient)

-- Terms of a sum.
abbrev IsTerm : ℤ → Type 0
IsTerm z = unsigned_abs z ≤ 2 ^ 116

pub sum_is : (a b c d : ℤ) → IsTerm a → IsTerm b → IsTerm c → IsTerm d
    → to_z w128 (of_z w128 (to_z w128 (of_z w128 (to_z w128 (of_z w128 a) +ℤ to_z w128 (of_z w128 b))) +ℤ to_z w128
    (of_z w128 (to_z w128 (of_z w128 c) +ℤ to_z w128 (of_z w128 d))))) ≡ (a +ℤ b) +ℤ (c +ℤ d)
sum_is a b c d a_small b_small c_small d_small = omega (arith, ints)

pub sum_room : (a b c d : ℤ) → IsTerm a → IsTerm b → IsTerm c → IsTerm d
    → FitsSigned w128 (to_z w128 (of_z w128 (to_z w128 (of_z w128 (to_z w128 (of_z w128 a) +ℤ to_z w128 (of_z w128 b)))
    +ℤ to_z w128 (of_z w128 (to_z w128 (of_z w128 c) +ℤ to_z w128 (of_z w128 d))))) +ℤ pos (2 ^ 63))
sum_room a b c d a_small b_small c_small d_small =
    rw (sum_is a b c d a_small b_small c_small d_small) (omega (arith, ints))

-- A corner with its weight.
pub record IsWeighed (weight : ℕ) (corner product : ℤ) : Type 0 where
  pub small : IsMicro corner
  pub is : product ≡ pos weight *ℤ to_z w64 (of_z w64 corner)
  pub short : IsTerm product

pub mean_is : (s t : ℕ) {a b c d wa wb wc wd mean : ℤ} → IsWeighed ((ONE - s) * (ONE - t)) a wa
    → IsWeighed (s * (ONE - t)) b wb → IsWeighed ((ONE - s) * t) c wc → IsWeighed (s * t) d wd
    → mean ≡ int_div_euclid (to_z w128
    (of_z w128 (to_z w128 (of_z w128 (to_z w128 (of_z w128 (to_z w128 (of_z w128 wa) +ℤ to_z w128 (of_z w128 wb)))
    +ℤ to_z w128 (of_z w128 (to_z w128 (of_z w128 wc) +ℤ to_z w128 (of_z w128 wd))))) +ℤ pos (2 ^ 63)))) (pos (2 ^ 64))
    → mean ≡ blend s t a b c d
mean_is s t {wa = wa} {wb} {wc} {wd} of_a of_b of_c of_d is = is ∙ rw (
  sum_is wa wb wc wd of_a.short of_b.short of_c.short of_d.short,
  kept (((wa +ℤ wb) +ℤ (wc +ℤ wd)) +ℤ pos (2 ^ 63))
      (omega (arith, ints, of_a.short, of_b.short, of_c.short, of_d.short)),
  term of_a,
  term of_b,
  term of_c,
  term of_d,
)
  where
    term : {k : ℕ} {z w : ℤ} → IsWeighed k z w → w ≡ pos k *ℤ z
    term {k} {z} of = of.is ∙ ap (λ n. pos k *ℤ n) (kept_half z (omega arith))

-- A coordinate that is cast.
pub cast_micro : (z : ℤ) → IsMicro z → to_z w64 (of_z w64 (to_z w128 (of_z w128 z))) ≡ z
cast_micro z small = omega (arith, ints)

-- Where the vertices of the new mesh lie, as the tables tell.

module _ (layout : Layout) (new : Lengths) where
  -- Where a number of a vertex leads.
  pub on_arc : {place arc : ℕ} → place < before_arc new (length layout.arcs)
      → arc ≡ run_at (before_arc new) (length layout.arcs) place → IsAlong layout new arc place
  on_arc {place} low same = let here = run_here (λ b. new b - 1) _ place low in rw same (omega arith)

  pub in_patch : {place patch : ℕ} → place < before_patch (gluing_of layout) new (length layout.patches) → patch
      ≡ run_at (before_patch (gluing_of layout) new) (length layout.patches) place → IsInside layout new patch place
  in_patch {place} low same =
      let l = gluing_of layout in
      let p = run_at (before_patch l new) (length layout.patches) place in
      let here = run_here (λ q. (wide l new q - 1) * (high l new q - 1)) _ place low in
      let less = subst (λ n. place - before_patch l new p < n) (mul_comm _ _) here.inside in
      let rows = in_rows _ _ _ less in rw same (omega arith)

module _ (layout : Layout) (shares : Option (List ℕ)) (new : Lengths) where
  -- A node, by its number.
  pub found_at : {v u : ℕ} → v < length layout.nodes → u ≡ vertex_at layout v → AtVertex u ≡ spot_at layout shares new v
  found_at {v} low same = search rules

  -- A vertex on an arc.
  pub found_on : {v place arc : ℕ} {spot : EdgeSpot} → length layout.nodes ≤ v → place ≡ v - length layout.nodes
      → place < before_arc new (length layout.arcs) → arc ≡ run_at (before_arc new) (length layout.arcs) place
      → spot ≡ edge_spot layout (spacing_by layout shares new) arc (place - before_arc new arc + 1)
      → OnEdge spot ≡ spot_at layout shares new v
  found_on {v} {place} from place_is low same spot_is = search rules

  -- A vertex inside a patch.
  pub found_in : {v place patch : ℕ} {spot : FaceSpot} → length layout.nodes + before_arc new (length layout.arcs) ≤ v
      → place ≡ v - (length layout.nodes + before_arc new (length layout.arcs))
      → patch ≡ run_at (before_patch (gluing_of layout) new) (length layout.patches) place → spot ≡ face_spot layout new
      (spacing_by layout shares new) patch ((place - before_patch (gluing_of layout) new patch) %
      (wide (gluing_of layout) new patch - 1) + 1) ((place - before_patch (gluing_of layout) new patch) /
      (wide (gluing_of layout) new patch - 1) + 1) → InFace spot ≡ spot_at layout shares new v
  found_in {v} {place} from place_is same spot_is = search rules

-- Edges are divided in few parts.
short_step : (layout : Layout) (shares : Option (List ℕ)) (new : Lengths) (arc k : ℕ) → new arc ≤ 2 ^ 24
    → ((spacing_by layout shares new).step arc k).parts ≤ ONE
short_step layout shares new arc k few = search rules

pub short_spot : (layout : Layout) (shares : Option (List ℕ)) {new : Lengths}
    → ((arc : ℕ) → arc < length layout.arcs → new arc ≤ 2 ^ 24) → {v : ℕ} → v < vertices (gluing_of layout) new
    → IsShort (spot_at layout shares new v)
short_spot layout shares {new} short {v} low =
    by_point (point_at (gluing_of layout) new v) (is_point (gluing_of layout) new v low)
  where
    by_point : (a : Point) → IsPoint (gluing_of layout) new a
        → IsShort (spot_of layout new (spacing_by layout shares new) a)
    by_point (node n) is_a = tt
    by_point (along arc k) is_a = short_step layout shares new arc k (short arc is_a.0)
    by_point (inside p i j) is_a = tt

module _ (faces : Faces) (layout : Layout) (tables : PlaceTables) (are : ArePlaces faces layout tables) where
  abbrev l : Gluing
  l = gluing_of layout

  abbrev old : Lengths
  old = long_at layout.arcs

  abbrev new : Lengths
  new = lengths_in tables.lengths.items

  abbrev spacing : ArcSpacing
  spacing = spacing_in layout tables

  abbrev is : IsSomeLayout layout
  is = are.laid_out.0

  -- All numbers are small.
  few_points : vertices l new ≤ 2 ^ 23
  few_points = omega (arith, vertices_few l new (laid_of layout is) are.lengths)

  short : (arc : ℕ) → arc < length layout.arcs → new arc ≤ 2 ^ 24
  short arc low = omega (arith, term_room (λ b. new b - 1) (length layout.arcs) arc low, few_points)

  few : (s : Way) (p : ℕ) → p < length layout.patches → size l new p s ≤ 2 ^ 21
  few s p low = omega (arith, side_few l new (laid_of layout is) are.lengths p s low)

  spaced : IsSpacing l old new spacing
  spaced = spacing_is layout is new are.lengths are.few _

  -- What is read of the tables.
  sized : (p : ℕ) → p < length layout.patches → IsSized layout p
  sized p low = record {
    width = sym (is.laid.sizes p south low);
    height = sym (is.laid.sizes p west low);
    some = wide_some l old (laid_of layout is).paved (lengths_of layout is) p low;
    tall = high_some l old (laid_of layout is).paved (lengths_of layout is) p low;
    few_columns = old_few is south low;
    few_rows = old_few is west low;
    cells = is.laid.patches.sized p low;
  }

  -- What stands in no table.
  ends_of : (p : ℕ) → p < length layout.patches → HasEnds layout new spacing p
  ends_of p low =
      let ahead = ahead_end l old new spacing (laid_of layout is) (lengths_of layout is) are.lengths spaced p in
      let back = back_end l old new spacing (laid_of layout is) (lengths_of layout is) are.lengths spaced p in
      record {
        south = ahead south low;
        east = rw (← are.lengths.upright p low) (ahead east low ∙ omega arith);
        north = rw (← are.lengths.across p low) (back north low);
        west = back west low;
      }

  small_of : (p i j : ℕ) → p < length layout.patches → i ≤ wide l new p → j ≤ high l new p
      → IsSmall (grid_point layout new spacing p i j)
  small_of p i j low i_le j_le =
      let laid = laid_of layout is in
      let long = lengths_of layout is in omega (
        arith,
        u_upto l old new spacing laid long are.lengths spaced p i j low i_le j_le,
        v_upto l old new spacing laid long are.lengths spaced p i j low i_le j_le,
        old_few is south low,
        old_few is west low,
      )

  pub placed_of : ArePlaced layout tables
  placed_of =
      let darts = even_edge l old new (lengths_of layout is) are.lengths in
      assumption (old_short layout is, darts, sized, few_points, short, few south, few west, spaced, ends_of, small_of)
