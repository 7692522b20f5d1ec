-- What is read of the tables and of the layout.
use Rattle.std.proofs.Common.{rules, ◌≡◌, ℕ, ◌+◌, ◌-◌, ◌*◌, ◌<◌, ◌≤◌, List, length, get_or, sym, ◌∙◌, ap, arith, ◌^◌}
use Rattle.std.proofs.lemmas.{List.get_or_read, List.get_or-map, List.length-map, Nat.mul-le}
use Rattle.def_cut.specs.Grids.{Rectangle, cell_of, patch_at, rectangle}
use Rattle.{def_cut.specs.declared.patch.Patch.Patch, def_remesh.specs.declared.places.PlaceTables.PlaceTables}
use Rattle.def_layout.specs.{Arcs.dart_at, Arcs.long_at, Arcs.path, declared.tmesh.TMesh.TMesh}
use Rattle.def_layout.specs.{Layouts.Layout, Layouts.gluing_of, Layouts.layout_of, declared.tmesh.TArc.TArc}
use Rattle.def_layout.specs.{Gluings.west, Lengths.wide, Lengths.high, Gluings.Way, Lengths.Lengths, Lengths.size}
use Rattle.def_remesh.specs.Placings.{rim_at, spacing_in, IsRim, side_parameter, AreParameters}
use Rattle.def_remesh.specs.{NewPoints.lengths_in, Numberings.AreRunStarts, declared.places.Rim.Rim}
use Rattle.{def_written.specs.Places.ArcSpacing, qm_place.specs.Placed.ArePlaced, def_math.specs.Counts.count_below}
use Rattle.{qm_place.specs.Spots.HasRoom, qm_place.specs.Spots.IsOnGrid, def_written.specs.Numbers.before_patch}
use Rattle.{std.specs.Prelude.slice_index, qm_place.proofs.Rims.old_read}

-- Where a run begins.
pub start_read : {f : ℕ → ℕ} {n : ℕ} {k v : ℕ} {starts : List ℕ} → AreRunStarts f n starts → k < n → v
    ≡ get_or starts k v → v ≡ count_below f k
start_read {k} {v} {starts} are low read = get_or_read starts k v (omega arith) read 0 ∙ are.each k (omega arith)

-- A dart of an arc.
pub dart_read : (t : TMesh) {a i j : ℕ} {arc : TArc} {d : ℕ} → a < length t.arcs.items → arc ≡ get_or t.arcs.items a arc
    → i < length arc.darts.items → d ≡ get_or arc.darts.items i d → i ≡ j → d ≡ dart_at (layout_of t).arcs a j
dart_read t {a} {i} {arc} {d} low same i_low read place = search (rules, get_or_read, get_or-map)

-- An arc.
pub record IsOldArc (t : TMesh) (a : ℕ) (arc : TArc) : Type 0 where
  pub long : length arc.darts.items ≡ long_at (layout_of t).arcs a
  pub short : long_at (layout_of t).arcs a ≤ 2 ^ 21

pub arc_read : (t : TMesh) {tables : PlaceTables} {a : ℕ} {arc : TArc} → ArePlaced (layout_of t) tables
    → a < length t.arcs.items → arc ≡ get_or t.arcs.items a arc → IsOldArc t a arc
arc_read t {a} is low read =
    record { long = old_read t low read; short = is.arcs a (omega (arith, length-map t.arcs.items path)) }

-- A patch.
pub record IsOldPatch (t : TMesh) (p : ℕ) (patch : Patch) : Type 0 where
  pub same : rectangle patch ≡ patch_at (layout_of t).patches p
  pub wide : patch.w ≡ wide (gluing_of (layout_of t)) (long_at (layout_of t).arcs) p
  pub high : patch.h ≡ high (gluing_of (layout_of t)) (long_at (layout_of t).arcs) p
  pub some : 0 < patch.w
  pub tall : 0 < patch.h
  pub few_columns : patch.w ≤ 2 ^ 21
  pub few_rows : patch.h ≤ 2 ^ 21
  pub cells : length patch.cells.items ≡ patch.h * patch.w

pub patch_read : (t : TMesh) {tables : PlaceTables} {p : ℕ} {patch : Patch} → ArePlaced (layout_of t) tables
    → p < length t.patches.items → patch ≡ get_or t.patches.items p patch → IsOldPatch t p patch
patch_read t {p = p} {patch = patch} is low read =
    let sized = is.patches p (omega (arith, length-map t.patches.items rectangle)) in
    let same : rectangle patch ≡ patch_at (layout_of t).patches p =
    ap rectangle read ∙ sym (get_or-map rectangle _ p patch _ low) in
    let wide_is = ap (λ (r : Rectangle). r.w) same ∙ sized.width in
    let high_is = ap (λ (r : Rectangle). r.h) same ∙ sized.height in
    let cells = rw (← same) at sized.cells in search (rules, arith)

-- A cell of a patch.
pub cell_low : {t : TMesh} {p : ℕ} {a b : ℕ} {patch : Patch} → IsOldPatch t p patch → a < patch.w → b < patch.h
    → b * patch.w + a < length patch.cells.items
cell_low {a} {b} {patch} is a_low b_low =
    omega (arith, mul-le (b + 1) patch.w patch.h patch.w (omega arith) (omega arith))

pub cell_read : {t : TMesh} {p : ℕ} {a b d : ℕ} {patch : Patch} → IsOldPatch t p patch → a < patch.w → b < patch.h
    → d ≡ get_or patch.cells.items (b * patch.w + a) d → d ≡ cell_of (patch_at (layout_of t).patches p) a b
cell_read {t} {p} {a} {b} {d} {patch} is a_low b_low read = search (rules, get_or_read)

-- The rim of a patch.
pub rim_read : (layout : Layout) (tables : PlaceTables) {p : ℕ} {rim : Rim} → length tables.rims.items ≡ length
    layout.patches → p < length layout.patches → rim ≡ get_or tables.rims.items p rim → rim ≡ rim_at tables.rims.items p
rim_read layout tables {p} {rim} rimmed low read = search (rules, get_or_read)

pub record IsRimRead (t : TMesh) (tables : PlaceTables) (p : ℕ) (rim : Rim) : Type 0 where
  pub low : p < length (layout_of t).patches
  pub same : rim ≡ rim_at tables.rims.items p
  pub is : IsRim (layout_of t) (lengths_in tables.lengths.items) (spacing_in (layout_of t) tables) p rim
      tables.parameters.items

pub rim_here : (t : TMesh) {tables : PlaceTables} {p : ℕ} {rim : Rim} → ArePlaced (layout_of t) tables
    → p < length t.patches.items → rim ≡ get_or tables.rims.items p rim → IsRimRead t tables p rim
rim_here t {tables} {p} {rim} are low read =
    let p_low : p < length (layout_of t).patches = omega (arith, length-map t.patches.items rectangle) in
    let same = rim_read (layout_of t) tables are.rimmed p_low read in
    record { low = p_low; same = same; is = rw same (are.rims p p_low) }

-- A corner of a cell of the new mesh is one of the patch's grid points.
pub on_grid : (t : TMesh) {tables : PlaceTables} {p i j a b : ℕ} → ArePlaced (layout_of t) tables
    → p < length t.patches.items → i < wide (gluing_of (layout_of t)) (lengths_in tables.lengths.items) p
    → j < high (gluing_of (layout_of t)) (lengths_in tables.lengths.items) p → a ≤ i + 1 → b ≤ j + 1
    → IsOnGrid (rim_at tables.rims.items p) a b
on_grid t {p = p} are low i_low j_low a_le b_le =
    let is = are.rims p (omega (arith, length-map t.patches.items rectangle)) in omega arith

pub rim_room : {layout : Layout} (tables : PlaceTables) {p : ℕ} {rim : Rim} {list : List ℕ} → p < length layout.patches
    → IsRim layout (lengths_in tables.lengths.items) (spacing_in layout tables) p rim tables.parameters.items
    → list ≡ tables.parameters.items → HasRoom rim list
rim_room tables low is same = omega (arith, (is.sides west).room, ap (λ (xs : List ℕ). length xs) same)

-- The parameter of a place of a side, which stands in the list or is that of the end of the side.
pub side_read : (layout : Layout) (new : Lengths) (spacing : ArcSpacing) (p : ℕ) (s : Way) {list : List ℕ}
    {begin places place r end n : ℕ} → (place < places → r ≡ slice_index list (begin + place))
    → (places ≤ place → r ≡ end) → AreParameters layout new spacing p s begin list
    → size (gluing_of layout) new p s ≡ n → places ≡ n → place ≤ n → end ≡ side_parameter layout new spacing p s n
    → r ≡ side_parameter layout new spacing p s place
side_read layout new spacing p s before last is size_is places_are upto end_is = search (rules, is.each)

-- Where the last run ends.
pub end_read : {f : ℕ → ℕ} {n : ℕ} {len v : ℕ} {starts : List ℕ} → AreRunStarts f n starts → len ≡ length starts
    → v ≡ get_or starts (len - 1) v → v ≡ count_below f n
end_read {f} {n} {len} {v} {starts} are long read = search (rules, get_or_read)

-- Where the inner points of a patch begin, and how wide it is.
pub record IsOffset (layout : Layout) (tables : PlaceTables) (patch begin columns : ℕ) : Type 0 where
  pub begin_is : begin ≡ before_patch (gluing_of layout) (lengths_in tables.lengths.items) patch
  pub columns_are : columns ≡ wide (gluing_of layout) (lengths_in tables.lengths.items) patch

pub offset_read : {layout : Layout} {tables : PlaceTables} (are : ArePlaced layout tables) {patch begin : ℕ} {rim : Rim}
    → patch < length layout.patches → begin ≡ get_or tables.inside.begin.items patch begin → rim
    ≡ get_or tables.rims.items patch rim → IsOffset layout tables patch begin rim.wide
offset_read {layout} {tables} are {patch} {begin} {rim} low begin_read rim_is = record {
  begin_is = start_read are.inside low begin_read;
  columns_are = ap (λ (r : Rim). r.wide) (rim_read layout tables are.rimmed low rim_is) ∙ (are.rims patch low).wide;
}
