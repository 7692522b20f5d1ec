-- The first remedy of each pair in a list in order is the cheapest, and marks of the arcs of these.
use Rattle.std.proofs.lemmas.Grind.{common_steps}
use Rattle.std.proofs.Common.{rules, ◌≡◌, ◌≢◌, ◌⊎◌, ℕ, zero, suc, ◌+◌, ◌-◌, ◌<◌, ◌≤◌, Bool, false, List, length, get_or}
use Rattle.std.proofs.Common.{refl, sym, ◌∙◌, ap, subst, inl, inr, arith, ◌*◌, ◌/◌, ◌%◌, ◌^◌, [], map}
use Rattle.std.proofs.lemmas.Bool.{cases_eq, cases_lt, false≢true, Decides.nat_tests}
use Rattle.std.proofs.lemmas.List.{get_or_default, get_or_read, length-map}
use Rattle.std.proofs.lemmas.List.{Sorted.Contains-permutation, Sorted.IsPermutation-sym, Elements.Contains-get_or}
use Rattle.def_layout.specs.{Lengths.Lengths, Lengths.size, Lengths.wide, Lengths.high, declared.tmesh.TMesh.TMesh}
use Rattle.def_layout.specs.{Surfaces.HasWholeSides, Surfaces.IsSurface, declared.tmesh.SideArc.SideArc, Arcs.path}
use Rattle.def_layout.specs.{Gluings.Way, Gluings.north, Gluings.west, Gluings.Gluing, declared.tmesh.TArc.TArc}
use Rattle.def_layout.specs.Layouts.{Layout, gluing_of, way_number, layout_of}
use Rattle.def_remesh.specs.Numberings.{sizes_on, tables_of, AreRunStarts, IsNumbering}
use Rattle.def_written.specs.NewFaces.{face_count, patch_of}
use Rattle.def_written.specs.Numbers.{before_arc, before_patch, vertex_number as point_name}
use Rattle.def_written.specs.Points.{along, inside, arc_point, use_point, side_point, point, Point}
use Rattle.embedding_laws.proofs.Bounds.{laid_of, side_few, vertices_few}
use Rattle.qm_offsets.{specs.Fours.arcs_on, proofs.Spots.last_is, proofs.Spots.within_run}
use Rattle.qm_offsets.proofs.Whole.{arcs_low, read_used, sides_of, way_for}
use Rattle.written_laws.proofs.{Spacings.cell_here, Spacings.run_low, EdgeNumbers.number_low}
use Rattle.qm_stitch.specs.{Numbered.AreTables, Sizes.long_by, Sizes.point_on, Tight.AddsMarks, Cells.IsCellOf}
use Rattle.qm_stitch.specs.Remedies.{remedy_at, AreInOrder, AreMarksOf, IsCheapestIn, IsFirstUpto}
use Rattle.{def_math.specs.Counts.count_below, def_math.specs.Runs.run_at, def_cut.specs.Grids.rectangle}
use Rattle.{def_remesh.specs.declared.tables.Tables.Tables, def_remesh.specs.NewPoints.lengths_in, std.specs.List.All}
use Rattle.{std.specs.List.Sorted.IsPermutation, qm_stitch.specs.declared.remedy.Remedy.Remedy}
use Rattle.{def_cut.specs.declared.patch.Patch.Patch, std.specs.Prelude.◌≤ℤ◌, std.specs.Prelude.slice_index}

-- Its key is lower, or the same and its price no higher.
abbrev IsBefore : (a b : Remedy) → Type 0
IsBefore a b = (a.key < b.key) ⊎ ((a.key ≡ b.key) × (a.price ≤ℤ b.price))

-- A list, and one with the same remedies that is in order.
module _ {xs : List Remedy} (ys : List Remedy) (moved : IsPermutation xs ys) (ordered : AreInOrder ys) where
  in_order : (d i j : ℕ) → j ≡ i + d → j < length ys → IsBefore (remedy_at ys i) (remedy_at ys j)
  in_order zero i j same low = search rules
  in_order (suc d) i j same low = search (rules, in_order d i (j - 1) (omega (arith, same)) (omega (arith, low, same)))

  -- The first one of its key.
  abbrev IsFirst : (k : ℕ) → Type 0
  IsFirst k = (k ≡ 0) ⊎ ((remedy_at ys (k - 1)).key ≢ (remedy_at ys k).key)

  find_first : (j : ℕ) → j < length ys → (k : ℕ) × (k ≤ j) × ((remedy_at ys k).key ≡ (remedy_at ys j).key) × IsFirst k
  find_first zero low = (0, omega arith, refl, inl refl)
  find_first (suc j) low = elim (cases_eq (remedy_at ys j).key (remedy_at ys (suc j)).key) [
    | inl same ↦ let r = find_first j (omega (arith, low)) in (r.0, omega (arith, r.1), r.2 ∙ same, r.3)
    | inr other ↦ (suc j, omega arith, refl, grind (arith, other))
  ]

  first_cheapest : (k : ℕ) → k < length ys → IsFirst k → IsCheapestIn xs (remedy_at ys k)
  first_cheapest k low first = record {
    has = Contains-permutation ys xs _ (IsPermutation-sym xs ys moved) (Contains-get_or ys k _ low);
    least = λ other has same.
        let (i, i_low, is) = Contains-permutation xs ys other moved has in
        let at : remedy_at ys i ≡ other = get_or_default ys i _ other i_low ∙ is in
        grind (arith, at, cases_lt i k, in_order (k - 1 - i) i (k - 1), in_order 1 (k - 1) k, in_order (i - k) k i);
  }

  -- Marks of the arcs of the first remedies in order are those of cheapest ones.
  pub marks_of : {layout : Layout} (none : List Bool) {marks : List Bool} → length none ≡ length layout.arcs
      → length marks ≡ length none → ((arc : ℕ) → arc < length layout.arcs → get_or none arc false ≡ false)
      → AddsMarks none marks (IsFirstUpto layout ys (length ys)) → AreMarksOf layout xs marks
  marks_of none long longer blank adds = record {
    long = longer ∙ long;
    only = λ arc low on. elim ((adds arc (omega arith)).0 on) [
      | inl before ↦ absurd (false≢true (sym (blank arc low) ∙ before))
      | inr (k, k_low, (first, of)) ↦ (remedy_at ys k, first_cheapest k k_low first, of)
    ];
    each = λ some has.
        let (j, j_low, is) = Contains-permutation xs ys some moved has in
        let (k, upto, same, first) = find_first j j_low in
        let low : k < length ys = omega arith in (
          remedy_at ys k,
          first_cheapest k low first,
          same ∙ ap (λ (r : Remedy). r.key) (get_or_default ys j _ some j_low ∙ is),
          λ arc arc_low of. (adds arc (omega arith)).1 (inr (k, low, (first, of))),
        );
  }

-- What the tables of a numbering say.

-- The number of a grid point on a side of a patch that is w wide and h high, and an inner grid point.
module _ (l : Gluing) (x : Lengths) (p i j : ℕ) {w h : ℕ} (wide_is : w ≡ wide l x p) (high_is : h ≡ high l x p)
    (above : j ≢ 0) where
  pub on_north : {v : ℕ} → j ≡ h → v ≡ point_name l x (side_point l x p north (w - i))
      → v ≡ point_name l x (point l x p i j)
  on_north top is = grind (arith, nat_tests)

  pub on_west : {v : ℕ} → j ≢ h → i ≡ 0 → v ≡ point_name l x (side_point l x p west (h - j))
      → v ≡ point_name l x (point l x p i j)
  on_west below first is = grind (arith, nat_tests)

-- What is read of tables that number the layout of a mesh.
pub tables_are : {layout : Layout} {t : Tables} → IsNumbering layout t → AreTables layout t
tables_are {layout} is =
    let laid = laid_of layout is.mesh in
    let some : ∥ IsSurface (gluing_of layout) ∥₁ = ∣ laid ∣₁ in
    search (rules, sides_of, arith, vertices_few _ _ laid is.lengths, side_few _ _ laid is.lengths, some)

-- The layout has the arcs and the patches of its tables.
pub arcs_long : (arcs : List TArc) → length (map path arcs) ≡ length arcs
arcs_long arcs = length-map arcs path

pub patches_long : (patches : List Patch) → length (map rectangle patches) ≡ length patches
patches_long patches = length-map patches rectangle

pub ruleset counts = (arith, arcs_long, patches_long)

-- The arcs in use on a side are arcs of the layout, and of the tables.
pub side_low : (layout : Layout) → HasWholeSides (gluing_of layout) → (p s : ℕ) {n : ℕ} → p < length layout.patches
    → s < 4 → n ≡ length layout.arcs → All (λ (used : SideArc). used.arc < n) (arcs_on layout p s)
side_low layout paved p s low side long =
    let (w, same) = way_for s side in rw (← same) (arcs_low layout paved p w _ _ low long refl)

pub uses_low : (t : TMesh) {tables : Tables} → AreTables (layout_of t) tables → {p s n : ℕ} {uses : List SideArc}
    → p < length t.patches.items → s < 4 → uses ≡ arcs_on (layout_of t) p s → n ≡ length t.arcs.items
    → All (λ (used : SideArc). used.arc < n) uses
uses_low t are {p} {s} low side same long = grind (arith, common_steps, side_low (layout_of t) are.whole.paved p s)

-- What is read of a table of starts, and its end.
module _ {sizes : ℕ → ℕ} {runs : ℕ} {starts : List ℕ} (are : AreRunStarts sizes runs starts) where
  pub starts_at : (k : ℕ) {v : ℕ} → k < runs → v ≡ get_or starts k v → v ≡ count_below sizes k
  starts_at k {v} low read = get_or_read starts k v (omega arith) read 0 ∙ are.each k (omega arith)

  pub starts_end : {list : List ℕ} {v : ℕ} → list ≡ starts → v ≡ slice_index list (length list - 1)
      → v ≡ count_below sizes runs
  starts_end same read = (rw same at read) ∙ last_is sizes runs starts are

module _ {layout : Layout} {t : Tables} (is : AreTables layout t) where
  abbrev l : Gluing
  l = gluing_of layout

  abbrev x : Lengths
  x = lengths_in t.lengths.items

  -- The tables of a side.
  pub long_is : (p : ℕ) (s : Way) → p < length layout.patches
      → long_by (tables_of t.sides.items) p (way_number s) ≡ size l x p s
  long_is p s low = last_is _ _ _ (is.sides.each p s low)

  -- A small number is that of a point.
  abbrev pub IsNumberOf : (number : ℕ) (point : Point) → Type 0
  IsNumberOf number point = (number ≡ point_name l x point) × (number < 2 ^ 23)

  -- An inner point of an arc.
  pub arc_here : (a k : ℕ) {v w : ℕ} → a < length layout.arcs → k ≤ x a → k ≢ 0 → k ≢ v
      → v ≡ get_or t.lengths.items a v → w ≡ get_or t.along.begin.items a w
      → IsNumberOf (t.nodes + w + (k - 1)) (arc_point l x a k)
  arc_here a k {v} {w} low upto some other read_v read_w =
      grind (arith, get_or_read, starts_at is.along a low read_w, number_low l x (along a k))

  -- A place of a side.
  pub record IsThere (side : List SideArc) (starts : List ℕ) (place at : ℕ) : Type 0 where
    pub from : get_or starts at 0 ≤ place
    pub upto : place - get_or starts at 0 ≤ x (get_or side at (record { arc = 0; forward = false })).arc
    pub point : use_point l x (get_or side at (record { arc = 0; forward = false })) (place - get_or starts at 0)
        ≡ point_on l x side place

  pub there : (side : List SideArc) {starts : List ℕ} {place at : ℕ} → 0 < length side
      → AreRunStarts (sizes_on side x) (length side) starts → place ≤ count_below (sizes_on side x) (length side) → at
      ≡ run_at (count_below (sizes_on side x)) (length side) place → IsThere side starts place at
  there side {starts} {place} some are upto same =
      let before = count_below (sizes_on side x) in
      let low = run_low before (length side) place some in
      let w = within_run (sizes_on side x) (length side) place some upto in
      search (rules, read_used)

  -- The cell of a face, as it is read: its patch, where the cells of that begin, and how wide it is.
  pub cell_read : {f patch begin : ℕ} {starts : List ℕ} → f < face_count l x → starts ≡ t.cells.begin.items
      → ((sizes : ℕ → ℕ) (runs : ℕ) → AreRunStarts sizes runs starts → patch ≡ run_at (count_below sizes) runs f)
      → begin ≡ get_or t.cells.begin.items patch begin
      → (begin ≤ f) × ((columns : ℕ) → columns ≡ wide l x patch → (0 < columns)
      × IsCellOf l x f (record { patch = patch; i = (f - begin) % columns; j = (f - begin) / columns }))
  cell_read {f} {patch} {begin} low same run read =
      let (here, place) = cell_here (wide l x) (high l x) l.patches f low in
      let patch_is : patch ≡ patch_of l x f = run (λ p. wide l x p * high l x p) l.patches (rw same is.cells) in
      let begin_is = starts_at is.cells patch (omega (arith, patch_is, here.low)) read in search rules

  -- An inner point of a patch.
  pub inside_here : (p i j : ℕ) {columns rows begin end : ℕ} → p < length layout.patches → i ≤ wide l x p
      → j ≤ high l x p → columns ≡ wide l x p → rows ≡ high l x p → j ≢ 0 → j ≢ rows → i ≢ 0 → i ≢ columns
      → begin ≡ before_patch l x p → end ≡ before_arc x (length layout.arcs)
      → IsNumberOf (t.nodes + end + begin + ((j - 1) * (columns - 1) + (i - 1))) (point l x p i j)
  inside_here p i j {columns} {rows} {begin} {end} low i_upto j_upto wide_is high_is above below later less begin_is
      end_is = search (rules, nat_tests, number_low l x (inside p i j))
