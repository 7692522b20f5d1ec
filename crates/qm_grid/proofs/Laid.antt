-- A mesh and a full cut of its faces are what the loops need.
use Rattle.std.proofs.Common.{rules, Bool, List, ◌≡◌, ℕ, zero, suc, ◌+◌, ◌*◌, ◌/◌, ◌%◌, ◌<◌, ◌≤◌, true, eqb, [], ◌∷◌}
use Rattle.std.proofs.Common.{length, get_or, sym, ◌∙◌, ap, refl, inl, inr, length-append, arith}
use Rattle.std.proofs.lemmas.Bool.{cases_lt, eqb-true, eq-eqb, or_cases, false≢true}
use Rattle.std.proofs.lemmas.List.FromFn.{get_or-map-range_with_len, length-map-range_with_len}
use Rattle.std.proofs.{Math.Nat.mul-le-mul_right, Math.Nat.suc-mul, Math.Nat.zero-mul, lemmas.List.get_or_append_left}
use Rattle.std.proofs.{lemmas.List.get_or-append-add, lemmas.List.Folds.list_any_at}
use Rattle.def_mesh.specs.{Faces.Faces, Meshes.IsMesh, HalfEdges.HalfEdges, HalfEdges.half_edges}
use Rattle.def_cut.specs.{FullCut.IsFullCut, FullCut.is_on, Cuts.Cut, Cuts.IsCorner, Grids.Cells, Grids.IsGrid}
use Rattle.def_cut.specs.{Grids.IsPatch, Grids.cell_of, Steps.easts, Steps.norths, Steps.spin}
use Rattle.mesh_laws.proofs.Chains.{manifold_law, next_face}
use Rattle.face_laws.proofs.FullCuts.{full_cut_law, same_face}
use Rattle.cut_laws.proofs.Classes.{AtMost, closed, linked_cell, links_join, step_spin, at_most}
use Rattle.cut_laws.proofs.{Rows.grown_grid, OneList.place_row, OneList.place_is}
use Rattle.qm_grid.specs.{Cells.row_list, Cells.grid_list, Heads.lies_in, Heads.AreOfOne, Heads.IsHead}
use Rattle.{def_known.specs.Cutting.IsCutting, cut_laws.specs.Grown.grown, cut_laws.specs.Grown.IsGrown}

pub to_cutting : (faces : Faces) (cut : List Bool) → IsMesh faces → IsFullCut faces cut → IsCutting faces cut
to_cutting faces cut mesh full = record {
  few = mesh.few;
  long = full.long;
  laws = manifold_law faces mesh.manifold;
  full = ((full_cut_law faces cut mesh.manifold).0 full).1;
}

-- What has grown from a corner, as a list of cells: a patch, which holds the faces of one class.

-- The list of a grid.
pub grid_long : (mesh : HalfEdges) (d w h : ℕ) → length (grid_list mesh d w h) ≡ h * w
grid_long mesh d w zero = sym (zero-mul w)
grid_long mesh d w (suc h) = search (rules, length-append, length-map-range_with_len, grid_long mesh d w h)

pub grid_at : (mesh : HalfEdges) (d w h i j : ℕ) → i < w → j < h → get_or (grid_list mesh d w h) (j * w + i) 0
    ≡ grown mesh d i j
grid_at mesh d w zero i j li lj = absurd (omega arith)
grid_at mesh d w (suc h) i j li lj = elim (cases_lt j h) [
  | inl l ↦
      let m : suc j * w ≤ h * w = mul-le-mul_right w l in
      get_or_append_left (grid_list mesh d w h) (row_list mesh (norths mesh d h) w) 0 (j * w + i)
      (omega (arith, m, grid_long mesh d w h, suc-mul j w)) ∙ grid_at mesh d w h i j li l
  | inr g ↦ let e : j ≡ h = omega arith in rw (e, ← (grid_long mesh d w h), get_or-append-add)
      (get_or-map-range_with_len (easts mesh (norths mesh d h)) 0 w i i 0 li (omega arith))
]

-- Cells and faces.
pub lies_at : (cells : List ℕ) (f : ℕ) → lies_in cells f ≡ true → (k : ℕ) × (k < length cells)
    × (get_or cells k 0 / 4 ≡ f)
lies_at [] f l = absurd (false≢true l)
lies_at (c ∷ cells) f l = elim (or_cases (eqb (c / 4) f) (lies_in cells f) l) [
  | inl here ↦ (0, omega arith, eqb-true (c / 4) f here)
  | inr later ↦ let (k, l, e) = lies_at cells f later in (suc k, omega arith, e)
]

pub at_lies : (cells : List ℕ) (f k : ℕ) → k < length cells → get_or cells k 0 / 4 ≡ f → lies_in cells f ≡ true
at_lies cells f k l e = list_any_at (λ c. eqb (c / 4) f) cells k 0 l (eq-eqb (get_or cells k 0 / 4) f e)

-- A grid told by other cells that are the same.
pub grid_same : (mesh : HalfEdges) (cut : Cut) (w h : ℕ) (cell tile : Cells)
    → ((i j : ℕ) → i < w → j < h → tile i j ≡ cell i j) → IsGrid mesh cut w h cell → IsGrid mesh cut w h tile
grid_same mesh cut w h cell tile same g = search rules

module _ {faces : Faces} {cut : List Bool} (cutting : IsCutting faces cut) {d w h : ℕ}
    (corner : IsCorner (half_edges faces) (is_on cut) d) (g : IsGrown (half_edges faces) (is_on cut) d w h) where
  abbrev mesh : HalfEdges
  mesh = half_edges faces

  abbrev cells : List ℕ
  cells = grid_list mesh d w h

  whole : IsGrid mesh (is_on cut) w h (grown mesh d)
  whole = grown_grid cutting.laws cutting.full d w h corner g

  cell_is : (k : ℕ) → k < length cells → (k / w < h) × (get_or cells k 0 ≡ grown mesh d (k % w) (k / w))
  cell_is k l =
      let row = place_row k w h g.wide (omega (arith, grid_long mesh d w h)) in (
        row,
        ap (λ x. get_or cells x 0) (place_is k w g.wide)
            ∙ grid_at mesh d w h (k % w) (k / w) (omega (arith, g.wide)) row,
      )

  -- Each cell is a dart.
  pub cells_low : (k : ℕ) → k < length (grid_list (half_edges faces) d w h)
      → get_or (grid_list (half_edges faces) d w h) k 0 / 4 < length faces
  cells_low k l =
      let (row, is) = cell_is k l in
      let dart = whole.low (k % w) (k / w) (omega (arith, g.wide)) row in
      omega (arith, is, dart)

  -- A face of the cells is of the class,
  pub lies_linked : (f : ℕ) → lies_in (grid_list (half_edges faces) d w h) f ≡ true → AreOfOne faces cut d (4 * f)
  lies_linked f l =
      let (k, lk, e) = lies_at cells f l in
      let (row, here) = cell_is k lk in
      let (n, is) = same_face faces cutting.laws (grown mesh d (k % w) (k / w)) (4 * f)
      (ap (λ x. x / 4) (sym here) ∙ (e ∙ omega arith)) in
      rw is (step_spin cutting.laws (is_on cut) d (grown mesh d (k % w) (k / w)) n
      (linked_cell cutting.laws cutting.full whole (k % w) (k / w) (omega (arith, g.wide)) row))

  spin_face : (k x : ℕ) → spin mesh k x / 4 ≡ x / 4
  spin_face zero x = refl
  spin_face (suc k) x = next_face (spin mesh k x) ∙ spin_face k x

  -- and a dart of the class lies in the face of a cell.
  pub linked_lies : (x : ℕ) → AreOfOne faces cut d x → lies_in (grid_list (half_edges faces) d w h) (x / 4) ≡ true
  linked_lies x l =
      let (k, s) = closed cutting.laws cutting.full whole d x l.0 l.1
      (0, record { a = 0; b = 0; a_low = g.wide; b_low = g.tall; is = refl }) in
      let m = mul-le-mul_right w s.b_low in
      at_lies cells (x / 4) (s.b * w + s.a) (omega (arith, m, grid_long mesh d w h, suc-mul s.b w, s.a_low))
      (ap (λ y. y / 4) (grid_at mesh d w h s.a s.b s.a_low s.b_low)
      ∙ (sym (spin_face k (grown mesh d s.a s.b)) ∙ ap (λ y. y / 4) (sym s.is)))

  -- From the least corner grows a patch.
  pub laid_patch : {f : ℕ} → IsHead faces cut f d → (patch : List ℕ) → patch ≡ grid_list (half_edges faces) d w h
      → IsPatch (half_edges faces) (is_on cut) w h (cell_of (record { w = w; h = h; cells = patch }))
  laid_patch {f} head patch e = record {
    grid = grid;
    least_east = λ i e. omega (arith, first, most.east i e);
    least_far = λ i j e z. omega (arith, first, most.far i j e z);
    least_north = λ j z. omega (arith, first, most.north j z);
  }
    where
      tile : Cells
      tile i j = get_or patch (j * w + i) 0

      same : (i j : ℕ) → i < w → j < h → tile i j ≡ grown mesh d i j
      same i j li lj = ap (λ xs. get_or xs (j * w + i) 0) e ∙ grid_at mesh d w h i j li lj

      grid : IsGrid mesh (is_on cut) w h tile
      grid = grid_same mesh (is_on cut) w h (grown mesh d) tile same whole

      first : tile 0 0 ≡ d
      first = same 0 0 g.wide g.tall

      most : AtMost mesh w h tile d
      most = at_most cutting.laws cutting.full grid d
          (λ x l c. head.least x (links_join cutting.laws (is_on cut) (4 * f) d x head.linked (rw first at l)) c)
