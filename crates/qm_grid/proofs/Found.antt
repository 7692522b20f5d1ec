-- The list of patches as it grows, face by face.
use Rattle.std.proofs.Common.{rules, ◌≡◌, ◌⊎◌, ℕ, suc, ◌+◌, ◌*◌, ◌/◌, ◌%◌, ◌<◌, ◌≤◌, Bool, true, false, ◌||◌, List, []}
use Rattle.std.proofs.Common.{◌∷◌, ◌++◌, map, length, get_or, replicate, sym, ◌∙◌, ap, refl, inl, inr, length-append}
use Rattle.std.proofs.Common.{arith, zero, ◌-◌, append_assoc}
use Rattle.std.proofs.lemmas.Bool.{or_cases, false≢true}
use Rattle.std.proofs.lemmas.List.{get_or_append_left, get_or-map, length-map, length-replicate, get_or-replicate}
use Rattle.std.proofs.{Math.Seq.get_or-append_seam, lemmas.List.FromFn.map-range_with_len_more}
use Rattle.def_mesh.specs.{Faces.Faces, HalfEdges.HalfEdges, HalfEdges.half_edges, HalfEdges.IsQuadManifold}
use Rattle.def_cut.specs.Grids.{Rectangle, cell_of, patch_at, least_of, IsPatch, IsSide, IsPartition}
use Rattle.def_cut.specs.{FullCut.is_on, Steps.spin, Steps.step_east, Steps.easts, Steps.norths, Cuts.Cut}
use Rattle.def_cut.specs.{Cuts.IsCorner, Cuts.IsCut}
use Rattle.cut_laws.{specs.Grown.IsGrown, specs.Grown.IsRow, proofs.Classes.linked_back, proofs.Classes.least_high}
use Rattle.cut_laws.{proofs.Classes.least_low, proofs.Rows.endless, proofs.Rows.next_row, proofs.Rows.grow}
use Rattle.cut_laws.proofs.OneList.{AreTiles, LiesInPatch, least_at, place_row, place_is, shared, once}
use Rattle.qm_grid.specs.{Cells.grid_list, Cells.row_list, Heads.lies_in, Heads.IsHead}
use Rattle.qm_grid.proofs.Laid.{grid_long, cells_low, lies_at, at_lies, linked_lies, laid_patch}
use Rattle.{face_laws.proofs.FullCuts.same_face, def_known.specs.Cutting.IsCutting}

-- The faces before n are seen, and the patches found so far hold the seen ones, in order of their least faces.
pub record AreFoundSoFar (faces : Faces) (cut : List Bool) (n : ℕ) (seen : List Bool) (found : List Rectangle) : Type
    0 where
  pub long : length seen ≡ length faces
  pub done : (g : ℕ) → g < n → g < length faces → get_or seen g false ≡ true
  pub listed : (g : ℕ) → g < length faces → get_or seen g false ≡ true → (k : ℕ) × (k < length found)
      × (lies_in (patch_at found k).cells g ≡ true)
  pub back : (k g : ℕ) → k < length found → g < length faces → lies_in (patch_at found k).cells g ≡ true
      → get_or seen g false ≡ true
  pub tiles : AreTiles (half_edges faces) (is_on cut) (λ d. d / 4) found
  pub below : (k : ℕ) → k < length found → least_at (λ d. d / 4) found k < n

-- What stands in a list with one patch more.
at_end : (found : List Rectangle) (p : Rectangle) → patch_at (found ++ p ∷ []) (length found) ≡ p
at_end found p = get_or-append_seam found p [] (record { w = 0; h = 0; cells = [] })

at_front : (found : List Rectangle) (p : Rectangle) (k : ℕ) → k < length found → patch_at (found ++ p ∷ []) k
    ≡ patch_at found k
at_front found p k l = get_or_append_left found (p ∷ []) (record { w = 0; h = 0; cells = [] }) k l

one_more : (found : List Rectangle) (p : Rectangle) → length (found ++ p ∷ []) ≡ length found + 1
one_more found p = length-append found (p ∷ [])

front_or_end : (found : List Rectangle) (p : Rectangle) (k : ℕ) → k < length (found ++ p ∷ []) → (k < length found)
    ⊎ (k ≡ length found)
front_or_end found p k l = search (rules, one_more)

-- A fact of each patch goes over to the longer list.
each_more : (P : Rectangle → Type 0) (found : List Rectangle) (p : Rectangle)
    → ((k : ℕ) → k < length found → P (patch_at found k)) → P p → (k : ℕ) → k < length (found ++ p ∷ [])
    → P (patch_at (found ++ p ∷ []) k)
each_more P found p each here k l = elim (front_or_end found p k l) [
  | inl b ↦ rw (at_front found p k b) (each k b)
  | inr e ↦ rw (e, at_end found p) here
]

module _ {faces : Faces} {cut : List Bool} (cutting : IsCutting faces cut) where
  abbrev mesh : HalfEdges
  mesh = half_edges faces

  -- A face of a patch has all its darts there.
  lies_side : (p : Rectangle) → 0 < p.w → length p.cells ≡ p.h * p.w → (x : ℕ) → lies_in p.cells (x / 4) ≡ true
      → (i : ℕ) × (j : ℕ) × (k : ℕ) × IsSide mesh p i j k x
  lies_side p wide sized x on =
      let (q, lq, face_is) = lies_at p.cells (x / 4) on in
      let (k, is) = same_face faces cutting.laws (get_or p.cells q 0) x face_is in (
        q % p.w,
        q / p.w,
        k,
        record {
          i_low = omega arith;
          j_low = place_row q p.w p.h wide (omega (arith, lq, sized));
          is = is ∙ ap (λ n. spin mesh k (get_or p.cells n 0)) (place_is q p.w wide);
        },
      )

  lies_inside : (p : Rectangle) → 0 < p.w → length p.cells ≡ p.h * p.w → (g : ℕ) → lies_in p.cells g ≡ true
      → LiesInPatch mesh p (4 * g)
  lies_inside p wide sized g on =
      let e : 4 * g / 4 ≡ g = omega arith in
      let (i, j, k, s) = lies_side p wide sized (4 * g) (rw e on) in
      (k, record { a = i; b = j; a_low = s.i_low; b_low = s.j_low; is = s.is })

  pub found_none : {seen : List Bool} → seen ≡ replicate (length faces) false → AreFoundSoFar faces cut 0 seen []
  found_none e = rw e (search (rules, arith, length-replicate, get_or-replicate))

  pub found_skip : {n : ℕ} {seen : List Bool} {found : List Rectangle} → AreFoundSoFar faces cut n seen found
      → get_or seen n false ≡ true → AreFoundSoFar faces cut (n + 1) seen found
  found_skip {n} so on = search rules

  module _ {f d : ℕ} (p : Rectangle) (low : f < length faces) (head : IsHead faces cut f d)
      (grown : IsGrown (half_edges faces) (is_on cut) d p.w p.h) (cells : p.cells ≡ grid_list (half_edges faces) d p.w
      p.h) {seen : List Bool} (new : List Bool) {found : List Rectangle} (so : AreFoundSoFar faces cut f seen found)
      (unseen : get_or seen f false ≡ false) (long : length new ≡ length seen) (put : (g : ℕ) → g < length seen → get_or
      new g false ≡ (get_or seen g false || lies_in p.cells g)) where
    patch : IsPatch mesh (is_on cut) p.w p.h (cell_of p)
    patch = laid_patch cutting head.corner grown head p.cells cells

    sized : length p.cells ≡ p.h * p.w
    sized = ap length cells ∙ grid_long mesh d p.w p.h

    lone : AreTiles mesh (is_on cut) (λ d. d / 4) (p ∷ [])
    lone = search (rules, patch, sized)

    own : lies_in p.cells f ≡ true
    own =
        let e : 4 * f / 4 ≡ f = omega arith in
        let back = linked_back cutting.laws cutting.full (4 * f) d (omega arith) head.linked in
        rw cells (rw e at (linked_lies cutting head.corner grown (4 * f) back))

    -- No face of the patch was seen.
    fresh : (g : ℕ) → g < length faces → lies_in p.cells g ≡ true → get_or seen g false ≡ true → ⊥
    fresh g lg on was =
        let (k, lk, there) = so.listed g lg was in
        let one = lies_inside (patch_at found k) (so.tiles.patch k lk).grid.wide (so.tiles.sized k lk) g there in
        let two = lies_inside p grown.wide sized g on in
        let same = shared cutting.laws cutting.full (λ d. d / 4) found (p ∷ []) so.tiles lone k 0
        (4 * g) lk (omega arith) one two in
        false≢true (sym unseen ∙ so.back k f lk low (ap (λ (r : Rectangle). lies_in r.cells f) same ∙ own))

    in_range : (g : ℕ) → lies_in p.cells g ≡ true → g < length faces
    in_range g on = search (rules, lies_at, cells_low)

    -- So f is its least face.
    least : least_of (map (λ d. d / 4) p.cells) ≡ f
    least =
        let entry = λ (k : ℕ) (l : k < length p.cells). get_or-map (λ d. d / 4) p.cells k 0 0 l in
        let long = length-map p.cells (λ d. d / 4) in
        let (k, l, e) = lies_at p.cells f own in
        let high = least_high (map (λ d. d / 4) p.cells) k (omega (arith, l, long)) in
        let low = least_low (map (λ d. d / 4) p.cells) f (omega (arith, l, long)) (λ j h.
        let lj : j < length p.cells = omega (arith, long) in
        let on = at_lies p.cells (get_or p.cells j 0 / 4) j lj refl in
        let there = in_range _ on in
        omega (arith, entry j lj, λ (less : get_or p.cells j 0 / 4 < f). fresh _ there on (so.done _ less there))) in
        omega (arith, high, low, entry k l, e)

    was_or_is : (g : ℕ) → g < length faces → get_or new g false ≡ (get_or seen g false || lies_in p.cells g)
    was_or_is g l = put g (omega (arith, so.long))

    pub found_more : AreFoundSoFar faces cut (f + 1) new (found ++ p ∷ [])
    found_more = record {
      long = long ∙ so.long;
      done = λ g l h. grind (arith, was_or_is g h, own, so.done g);
      listed = λ g h on. elim (or_cases (get_or seen g false) (lies_in p.cells g) (sym (was_or_is g h) ∙ on)) [
        | inl was ↦ let (k, l, there) = so.listed g h was in
            (k, omega (arith, l, one_more found p), rw (at_front found p k l) there)
        | inr is ↦ (length found, omega (arith, one_more found p), rw (at_end found p) is)
      ];
      back = λ k g l h on. grind (
        arith,
        was_or_is g h,
        front_or_end found p k l,
        at_front found p k,
        at_end found p,
        so.back k g,
      );
      tiles = record {
        patch = each_more (λ (r : Rectangle). IsPatch mesh (is_on cut) r.w r.h (cell_of r)) found p
            so.tiles.patch patch;
        sized = each_more (λ (r : Rectangle). length r.cells ≡ r.h * r.w) found p so.tiles.sized sized;
        ordered = λ k l.
            let front : k < length found = omega (arith, one_more found p) in
            rw (at_front found p k front) (elim (front_or_end found p (suc k) l) [
              | inl b ↦ rw (at_front found p (suc k) b) (so.tiles.ordered k b)
              | inr e ↦ rw (e, at_end found p, least) (so.below k front)
            ]);
      };
      below = each_more (λ (r : Rectangle). least_of (map (λ d. d / 4) r.cells) < f + 1) found p
          (λ k l. omega (arith, so.below k l)) (omega (arith, least));
    }

  pub found_done : {n : ℕ} {seen : List Bool} {found : List Rectangle} → AreFoundSoFar faces cut n seen found
      → length faces ≤ n → IsPartition (half_edges faces) (is_on cut) (λ d. d / 4) found
  found_done {found} so all = record {
    patch = so.tiles.patch;
    sized = so.tiles.sized;
    covers = λ d l.
        let (p, lp, there) = so.listed (d / 4) (omega arith) (so.done (d / 4) (omega arith) (omega arith)) in
        let (i, j, k, s) = lies_side (patch_at found p) (so.tiles.patch p lp).grid.wide (so.tiles.sized p lp) d there in
        (p, i, j, k, lp, s);
    once = once cutting.laws cutting.full (λ d. d / 4) found so.tiles;
    ordered = so.tiles.ordered;
  }

-- The walk along a row and up a grid, turn by turn.

-- One cell more of a row.
pub row_at : (mesh : HalfEdges) (s d e i : ℕ) → d ≡ easts mesh s i → e ≡ step_east mesh d → e ≡ easts mesh s (i + 1)
row_at mesh s d e i at is = let n : suc i ≡ i + 1 = omega arith in cc (ap (easts mesh s) n)

pub row_listed : (mesh : HalfEdges) (s i : ℕ) (old : List ℕ) {d : ℕ} {now new : List ℕ} → d ≡ easts mesh s i
    → now ≡ old ++ row_list mesh s i → new ≡ now ++ d ∷ [] → new ≡ old ++ row_list mesh s (i + 1)
row_listed mesh s i old {d} at listed put =
    cc (append_assoc old (row_list mesh s i) (d ∷ []), map-range_with_len_more (easts mesh s) 0 i i (omega arith))

module _ (mesh : HalfEdges) (laws : IsQuadManifold mesh) (cut : Cut) (full : IsCut mesh cut) where
  pub row_inside : (s d i : ℕ) → d ≡ easts mesh s i → ((k : ℕ) → k < i → cut (mesh.next (easts mesh s k)) ≡ false)
      → cut (mesh.next d) ≡ false → (k : ℕ) → k < i + 1 → cut (mesh.next (easts mesh s k)) ≡ false
  row_inside s d i at before off = search rules

  pub row_never : (s i : ℕ) → s < mesh.count → cut (mesh.prev s) ≡ true
      → ((k : ℕ) → k < i → cut (mesh.next (easts mesh s k)) ≡ false) → mesh.count + 1 ≤ i → ⊥
  row_never s i low west before far = endless laws full s low west (λ k l. before k (omega arith))

  -- Rows from one dart have one width.
  pub row_width : (s w v : ℕ) → IsRow mesh cut s w → IsRow mesh cut s v → w ≡ v
  row_width s w v one two = omega (arith, shorter w v one two, shorter v w two one)
    where
      shorter : (w v : ℕ) → IsRow mesh cut s w → IsRow mesh cut s v → w < v → ⊥
      shorter w v one two l =
          let e : suc (w - 1) ≡ w = omega (arith, one.wide) in
          cc (one.ends (w - 1) e, two.inside (w - 1) (omega (arith, one.wide)))

  -- The rows over a row.
  pub rows_up : (s w h : ℕ) → IsRow mesh cut s w → ((k : ℕ) → k < h → cut (mesh.next (mesh.next (norths mesh s k)))
      ≡ false) → IsRow mesh cut (norths mesh s h) w
  rows_up s w zero row before = row
  rows_up s w (suc h) row before = search (rules, next_row, rows_up s w h row (λ k l. before k (omega arith)))

  -- The row of a grid that comes next is as wide as its first.
  pub same_width : {s d h v : ℕ} → d ≡ norths mesh s h → IsRow mesh cut d v → ((k : ℕ) → k < h
      → cut (mesh.next (mesh.next (norths mesh s k))) ≡ false) → (w : ℕ) → IsRow mesh cut s w → w ≡ v
  same_width {s} {d} {h} {v} at row before w first =
      row_width d w v (rw at (rows_up s w h first before)) row

module _ {mesh : HalfEdges} (laws : IsQuadManifold mesh) {cut : Cut} (full : IsCut mesh cut) {s d h v : ℕ}
    (at : d ≡ norths mesh s h) (row : IsRow mesh cut d v)
    (before : (k : ℕ) → k < h → cut (mesh.next (mesh.next (norths mesh s k))) ≡ false) where
  -- One row more of a grid.
  pub grid_listed : {now new : List ℕ} → ((w : ℕ) → IsRow mesh cut s w → now ≡ grid_list mesh s w h)
      → new ≡ now ++ row_list mesh d v → (w : ℕ) → IsRow mesh cut s w → new ≡ grid_list mesh s w (h + 1)
  grid_listed listed put w first =
      let n : suc h ≡ h + 1 = omega arith in
      let same = same_width mesh laws cut full at row before w first in
      cc (listed w first, same, ap (grid_list mesh s w) n)

  -- The last one.
  pub grid_done : IsCorner mesh cut s → cut (mesh.next (mesh.next d)) ≡ true → IsGrown mesh cut s v (h + 1)
  grid_done corner on =
      let (w, up, g) = grow laws full s corner in
      record {
        wide = row.wide;
        tall = omega arith;
        row = rw (same_width mesh laws cut full at row before w g.row) at g.row;
        inside = λ j l. before j (omega arith);
        ends = λ j e. let same : j ≡ h = omega arith in rw (same, ← at) on;
      }
