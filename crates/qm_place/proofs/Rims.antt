-- New vertices lie between the old ones.
use Rattle.std.proofs.Common.{rules, ◌≡◌, ℕ, zero, suc, ◌<◌, List, length, Option, refl, sym, ap, arith, ◌+◌, ◌-◌, ◌*◌}
use Rattle.std.proofs.Common.{◌/◌, ◌≤◌, false, ◌∙◌, ◌^◌, Bool, true, [], get_or, ◌%◌, Some, ◌∷◌}
use Rattle.std.proofs.lemmas.{List.get_or_default, List.get_or-map, List.length-map, List.get_or_read, Nat.mul-le}
use Rattle.{std.specs.Prelude.ℤ, std.specs.Prelude.nat_le, std.specs.Prelude.slice_index, def_map.specs.Spots.edge_spot}
use Rattle.{def_mesh.specs.Faces.Faces, def_math.specs.Runs.run_at, def_cut.specs.Grids.rectangle}
use Rattle.{def_mesh.specs.Vertices.vertex_count, def_math.specs.Counts.count_below, def_text.specs.Types.Positions}
use Rattle.def_layout.specs.Layouts.{Layout, gluing_of, way_number, layout_of, side_at}
use Rattle.def_layout.specs.Gluings.{Way, south, east, north, west, Gluing, IsSlot}
use Rattle.def_layout.specs.{Arcs.long_at, Arcs.path_at, Arcs.path, Arcs.dart_at, declared.tmesh.SideArc.SideArc}
use Rattle.def_layout.specs.Lengths.{Lengths, AreLengths, reach, size}
use Rattle.def_layout.specs.declared.tmesh.{TArc.TArc, TMesh.TMesh}
use Rattle.def_written.specs.Spacings.{IsSpacing, counted, inner_step, shared_step, step_parameter}
use Rattle.def_written.specs.{Numbers.vertices, Numbers.before_arc, Places.ONE, Places.ArcSpacing, NewFaces.face_count}
use Rattle.def_remesh.specs.Placings.{coordinate_in, IsMeshLayout, LiesBetween, parameters_from, side_parameter}
use Rattle.def_remesh.specs.Placings.{AreParameters, IsRim, shares_in, IsSpaced}
use Rattle.def_remesh.specs.{NewSoup.coordinate, NewSoup.new_coordinate, NewSoup.spaced_place, declared.places.Rim.Rim}
use Rattle.def_remesh.specs.{NewPoints.point_at, NewPoints.lengths_in, declared.places.Spaced.Spaced}
use Rattle.def_remesh.specs.{Spaced.spacing_by, Spaced.shares_along, declared.limits.TheConstants.MAX_NEW_FACES}
use Rattle.map_laws.proofs.{Cells.is_point, OldPoints.old_low, OldPoints.spacing_is}
use Rattle.qm_offsets.proofs.{Whole.laid_of, Whole.lengths_of, Whole.sides_of, Spots.count_step}
use Rattle.written_laws.proofs.{Between.between_law, Sides.reach_low, Sides.slot}
use Rattle.written_laws.proofs.Spacings.{count_rises, run_from, run_to, place_low}
use Rattle.qm_place.specs.{Paths.share_by, Pushed.on_arc, Pushed.ArePushed, Pushed.IsKept, ArcTables.AreFine}
use Rattle.embedding_laws.proofs.Bounds.{old_faces, side_few, vertices_few}
use Rattle.qm_place.proofs.Pushes.{is_back, kept_on, parameters_in, pushed_join, pushed_kept, slot_parameter, start_by}
use Rattle.{def_map.specs.declared.spot.EdgeSpot.EdgeSpot, def_layoutnet.specs.MeshLayouts.IsSomeLayout}

-- One of three coordinates.
axis_of : (f : ℕ → ℤ) (axis : ℕ) → axis < 3 → coordinate_in (f 0 ∷ f 1 ∷ f 2 ∷ []) axis ≡ f axis
axis_of f zero low = refl
axis_of f (suc zero) low = refl
axis_of f (suc (suc zero)) low = refl
axis_of f (suc (suc (suc axis))) low = absurd (omega arith)

pub lies_between : (faces : Faces) (layout : Layout) (shares : Option (List ℕ)) (new : Lengths) (places : Positions)
    {v : ℕ} → IsMeshLayout faces layout → AreLengths (gluing_of layout) new
    → IsSpacing (gluing_of layout) (long_at layout.arcs) new (spacing_by layout shares new)
    → length places ≡ vertex_count faces → v < vertices (gluing_of layout) new
    → LiesBetween places (spaced_place faces layout places shares new v)
lies_between faces layout shares new places {v} (is, same) lengths spaced all low axis axis_low least greatest bound =
    rw (axis_of (new_coordinate faces layout places shares new (point_at (gluing_of layout) new v)) axis axis_low)
    (rw same at (between_law (gluing_of layout) (long_at layout.arcs) new (spacing_by layout shares new)
    (coordinate is.faces layout places axis) least greatest (laid_of layout is) (lengths_of layout is) lengths spaced
    (λ a at. bound _ (omega (arith, old_low layout is a at, all, ap vertex_count same)))
    (point_at (gluing_of layout) new v) (is_point (gluing_of layout) new v low)))

-- Walks along the old edges of an arc, and the parameters that they give.

-- The run that begins at or before a place, and ends after it, is the one that is found.
run_is : (start : ℕ → ℕ) (n t e : ℕ) → ((a b : ℕ) → a ≤ b → start a ≤ start b) → e < n → start e ≤ t
    → t < start (suc e) → run_at start n t ≡ e
run_is start n t e rises low from to =
    let found = run_at start n t in
    let upto = run_to start n t (omega arith) (omega (arith, rises (suc e) n low)) in
    grind (arith, run_from start n t (omega (arith, rises 0 e)), upto, rises (suc e) found, rises (suc found) e)

module _ (share : ℕ → ℕ) {m n k all : ℕ} (whole : all ≡ count_below share m) (some : 0 < all) (less : k < n)
    {e before : ℕ} (low : e < m) (before_is : before ≡ count_below share e) where
  -- A walk does not go on behind the last edge.
  pub next_low : n * (before + share e) ≤ k * all → e + 1 < m
  next_low le =
      let last : suc e ≡ m → n * (before + share e) ≡ n * all = λ same. rw (whole, ← same, before_is) in
      grind (arith, last, mul-le (k + 1) all n all (omega arith) (omega arith))

  -- Where it stops is the edge of the place.
  pub edge_is : n * before ≤ k * all → k * all < n * (before + share e) → e ≡ (inner_step share m n k).edge
  edge_is from to = sym (run_is (λ i. n * count_below share i) m (k * count_below share m) e
      (λ a b le. mul-le n _ n _ (omega arith) (count_rises share a b le)) low
      (rw (← whole, ← before_is) from) (rw (← whole, ← before_is) to))

  -- The rest of a place in its edge is less than its share.
  pub rest_low : n * before ≤ k * all → e ≡ (inner_step share m n k).edge → k * all - n * before < n * share e
  rest_low from same = search (rules, run_to)

-- The parameter of an inner point of an arc of a layout is that of the path of its darts.
pub arc_parameter : (layout : Layout) (new : Lengths) (shares : List ℕ) (arc : ℕ) {k : ℕ} {darts : List ℕ}
    → darts ≡ (path_at layout.arcs arc).darts → 0 < k → k < new arc
    → step_parameter (inner_step (counted (share_by darts shares false) (length darts)) (length darts) (new arc)
    (k - 1 + 1)) ≡ step_parameter (shared_step (long_at layout.arcs) new (shares_along layout shares) arc k)
arc_parameter layout new shares arc {k} same some less =
    let place : k - 1 + 1 ≡ k = omega arith in rw (same, place) (search rules)

-- The parameters of all sides, as they are put one after the other.

-- Sides are short.
pub old_few : {layout : Layout} → IsSomeLayout layout → {p : ℕ} (s : Way) → p < length layout.patches
    → size (gluing_of layout) (long_at layout.arcs) p s ≤ 2 ^ 21
old_few {layout} is {p} s low = omega (
  arith,
  side_few (gluing_of layout) (long_at layout.arcs) (laid_of layout is) (lengths_of layout is) p s low,
  old_faces layout is,
)

-- Arcs are short.
pub old_short : (layout : Layout) → IsSomeLayout layout → (arc : ℕ) → arc < length layout.arcs
    → long_at layout.arcs arc ≤ 2 ^ 21
old_short layout is arc low =
    let f = (laid_of layout is).forward arc low in
    omega (
      arith,
      reach_low (gluing_of layout) (long_at layout.arcs) f.0 f.1,
      old_few is f.0.side f.1.patch_low,
      ap (λ (u : SideArc). long_at layout.arcs u.arc) f.2,
    )

-- What is known of lengths of a layout of a mesh that give few faces, wherever they stand.
pub fine_of : (t : TMesh) {x list : List ℕ} → list ≡ x → IsSomeLayout (layout_of t) → length x ≡ length t.arcs.items
    → AreLengths (gluing_of (layout_of t)) (lengths_in x)
    → face_count (gluing_of (layout_of t)) (lengths_in x) ≤ MAX_NEW_FACES → AreFine (layout_of t) list
fine_of t {x} same is long lengths few =
    let l = gluing_of (layout_of t) in
    let laid = laid_of (layout_of t) is in
    rw same (record {
      whole = sides_of (layout_of t) is;
      old_some = (lengths_of (layout_of t) is).some;
      old_short = old_short (layout_of t) is;
      old_sizes = is.laid.sizes;
      old_few = λ p s low. old_few is s low;
      long = long ∙ sym (length-map t.arcs.items path);
      lengths = lengths;
      few = few;
      points = omega (arith, vertices_few l (lengths_in x) laid lengths);
      new_few = λ p s low. omega (arith, side_few l (lengths_in x) laid lengths p s low);
      spacing = spacing_is (layout_of t) is (lengths_in x) lengths few;
    })

-- What is read of an arc.
pub old_read : (t : TMesh) {a : ℕ} {arc : TArc} → a < length t.arcs.items → arc ≡ get_or t.arcs.items a arc
    → length arc.darts.items ≡ long_at (layout_of t).arcs a
old_read t {a} {arc} low same = search (rules, get_or-map)

-- The arc at a place of a side, as it is read.
module _ (t : TMesh) where
  abbrev l : Gluing
  l = gluing_of (layout_of t)

  abbrev old : Lengths
  old = long_at (layout_of t).arcs

  pub record IsRead (list : List ℕ) (p i : ℕ) (s : Way) (used : SideArc) : Type 0 where
    pub is_slot : IsSlot l (slot p s i)
    pub arc_low : used.arc < length t.arcs.items
    pub same : used ≡ l.use_at p s i
    pub old_upto : reach l old p s i + old used.arc ≤ size l old p s
    pub old_short : size l old p s ≤ 2 ^ 21
    pub old_next : reach l old p s (i + 1) ≡ reach l old p s i + old used.arc
    pub new_next : reach l (lengths_in list) p s (i + 1) ≡ reach l (lengths_in list) p s i + lengths_in list used.arc

  pub read : {list : List ℕ} {p i side : ℕ} {s : Way} {us : List SideArc} → AreFine (layout_of t) list
      → p < length t.patches.items → us ≡ get_or (get_or (layout_of t).sides p []) side [] → i < length us
      → way_number s ≡ side → IsRead list p i s (get_or us i (record { arc = 0; forward = false }))
  read {list} {p} {i} {side} {s} {us} fine low us_is i_low way =
      let p_low : p < length (layout_of t).patches = omega (arith, length-map t.patches.items rectangle) in
      let same : us ≡ side_at (layout_of t) p s = rw way us_is in
      let is_slot : IsSlot l (slot p s i) = record { patch_low = p_low; low = rw (← same) i_low } in
      let used_is : get_or us i (record { arc = 0; forward = false }) ≡ l.use_at p s i =
      rw (← same) (get_or_default us i _ _ i_low) in
      let arc = ap (λ (u : SideArc). u.arc) used_is in
      let less = fine.whole.paved.arc_low (slot p s i) is_slot in
      record {
        is_slot = is_slot;
        arc_low = omega (arith, length-map t.arcs.items path);
        same = used_is;
        old_upto = rw used_is (reach_low l old (slot p s i) is_slot);
        old_short = fine.old_few p s p_low;
        old_next = rw used_is (count_step _ i);
        new_next = rw used_is (count_step _ i);
      }

-- North and west are the sides numbered from 2 on.
pub back_by : (s : Way) {side : ℕ} → way_number s ≡ side → nat_le 2 side ≡ is_back s
back_by s way = search rules

-- Another arc of a side is put there.
pub side_more : {t : TMesh} {list : List ℕ} (spacing : ArcSpacing) {p i : ℕ} {s : Way} {used : SideArc} {z : List ℕ}
    {a b : List ℕ} {start : ℕ} {back : Bool} → IsRead t list p i s used → back ≡ is_back s
    → start ≡ start_by (gluing_of (layout_of t)) (long_at (layout_of t).arcs) p i s
    → ArePushed z a (reach (gluing_of (layout_of t)) (lengths_in list) p s i)
    (side_parameter (layout_of t) (lengths_in list) spacing p s)
    → ArePushed a b (lengths_in list used.arc) (on_arc spacing start (lengths_in list used.arc) used back)
    → ArePushed z b (reach (gluing_of (layout_of t)) (lengths_in list) p s (i + 1))
    (side_parameter (layout_of t) (lengths_in list) spacing p s)
side_more {t} {list} spacing {p} {i} {s} is back_is start_is before more =
    rw is.new_next (pushed_join before more (λ o low. rw (is.same, back_is) (slot_parameter (layout_of t)
    (lengths_in list) spacing p i s is.is_slot (rw (← is.same) low) start_is)))

-- The four sides of a patch.
module _ {layout : Layout} {list : List ℕ} (spacing : ArcSpacing) (fine : AreFine layout list) {p : ℕ}
    (low : p < length layout.patches) where
  abbrev Put : (a b : List ℕ) (s : Way) → Type 0
  Put a b s = ArePushed a b (size (gluing_of layout) (lengths_in list) p s)
      (side_parameter layout (lengths_in list) spacing p s)

  pub rim_built : {z a b c d : List ℕ} {begin w h : ℕ} → Put z a south → Put a b east → Put b c north → Put c d west
      → begin ≡ length z → w ≡ length a - begin → h ≡ length b - begin - w
      → IsRim layout (lengths_in list) spacing p (record { wide = w; high = h; begin = begin }) d
  rim_built {c = c} {d} {begin} {w} {h} first second third fourth begin_is w_is h_is =
      record { wide = omega arith; high = omega arith; sides = sides }
    where
      from_c : IsKept c d
      from_c = pushed_kept fourth

      sides : (s : Way) → AreParameters layout (lengths_in list) spacing p s
          (parameters_from (record { wide = w; high = h; begin = begin }) s) d
      sides south = parameters_in layout _ spacing p south begin_is first
          (kept_on (pushed_kept second) (kept_on (pushed_kept third) from_c))
      sides east = parameters_in layout _ spacing p east (omega arith) second (kept_on (pushed_kept third) from_c)
      sides north = parameters_in layout _ spacing p north (omega arith) third from_c
      sides west = parameters_in layout _ spacing p west (omega arith) fourth
          (record { long = omega arith; kept = λ k less. refl })

pub rim_kept : {layout : Layout} {new : Lengths} {spacing : ArcSpacing} {p : ℕ} {rim : Rim} {a : List ℕ} {b : List ℕ}
    → IsKept a b → IsRim layout new spacing p rim a → IsRim layout new spacing p rim b
rim_kept {layout} {new} {spacing} {p} {a} {b} kept is = search rules

-- The points of arcs by shares, as their table tells them.

-- An arc that is read is short.
pub read_short : (t : TMesh) {list : List ℕ} {a : ℕ} {arc : TArc} → AreFine (layout_of t) list
    → a < length t.arcs.items → arc ≡ get_or t.arcs.items a arc → length arc.darts.items ≤ 2 ^ 21
read_short t {a = a} fine low read =
    omega (arith, old_read t low read, fine.old_short a (omega (arith, low, length-map t.arcs.items path)))

module _ (layout : Layout) (new : Lengths) {o : Option Spaced} (told : IsSpaced layout new o) {spaced : Spaced}
    (is : o ≡ Some spaced) {arc k : ℕ} (low : arc < length layout.arcs) (some : 0 < k) (less : k < new arc) where
  pub inner_low : before_arc new arc + k - 1 < length spaced.parameters.items
  inner_low = omega (
    arith,
    (told spaced is).long,
    place_low (λ b. new b - 1) (length layout.arcs) arc (k - 1) low (omega (arith, some, less)),
  )

  inner_value : slice_index spaced.parameters.items (before_arc new arc + k - 1)
      ≡ (spacing_by layout (shares_in o) new).parameter_of arc true k
  inner_value = search rules

  -- What is read there.
  pub read_inner : {index read : ℕ} → index ≡ before_arc new arc + k - 1 → read
      ≡ get_or spaced.parameters.items index read → read ≡ (spacing_by layout (shares_in o) new).parameter_of arc true k
  read_inner {index} {read} place same = search (rules, get_or_read, inner_low, inner_value)

-- Where a point of an arc lies, by its parameter.
pub spot_told : (layout : Layout) {new : Lengths} {o : Option Spaced} (spaced : Spaced) → o ≡ Some spaced
    → IsSpacing (gluing_of layout) (long_at layout.arcs) new (spacing_by layout (shares_in o) new)
    → {arc k parameter : ℕ} → arc < length layout.arcs → k < new arc → parameter
    ≡ (spacing_by layout (shares_in o) new).parameter_of arc true k → {spot : EdgeSpot} → spot
    ≡ record { dart = dart_at layout.arcs arc (parameter / ONE); some = parameter % ONE; parts = ONE } → spot
    ≡ edge_spot layout (spacing_by layout (shares_in o) new) arc k
spot_told layout {new} spaced is spacing {arc} {k} {parameter} low less told spot_is = search rules
