-- At most one list of patches holds each face once.
use Rattle.std.proofs.Common.{rules, ◌≡◌, ℕ, suc, ◌+◌, ◌*◌, ◌/◌, ◌%◌, ◌<◌, List, [], map, length, get_or, ap}
use Rattle.std.proofs.{Common.arith, Math.Nat.div-lt_iff_lt-mul, lemmas.List.ext_get_or}
use Rattle.def_cut.specs.Grids.{IsPatch, Rectangle, cell_of, patch_at, least_of, IsSide, IsPartition}
use Rattle.cut_laws.proofs.{Corners.spun, Folds.no_fold, Folds.AreOne, Classes.In, Classes.one_patch, Classes.first_in}
use Rattle.cut_laws.proofs.Pigeon.{AreIncreasing, increasing_place, same_many, same_values}
use Rattle.{def_mesh.specs.HalfEdges.HalfEdges, def_mesh.specs.HalfEdges.IsQuadManifold, def_cut.specs.Cuts.Cut}
use Rattle.{def_cut.specs.Cuts.IsCut, def_cut.specs.Laws.OneListLaw}

-- A place among h rows of w.
pub place_row : (k w h : ℕ) → 0 < w → k < h * w → k / w < h
place_row k w h wide l = (div-lt_iff_lt-mul wide).1 l

pub place_is : (k w : ℕ) → 0 < w → k ≡ k / w * w + k % w
place_is k w wide = omega arith

-- Rectangles that have the same cells are equal.
pub same_rectangle : (p q : Rectangle) → 0 < p.w → length p.cells ≡ p.h * p.w → length q.cells ≡ q.h * q.w
    → AreOne p.w p.h q.w q.h (cell_of p) (cell_of q) → p ≡ q
same_rectangle p q wide lp lq one = λ i. record { w = one.wide i; h = one.tall i; cells = cells i }
  where
    long : length p.cells ≡ length q.cells
    long = cc (lp, one.tall, one.wide, lq)

    each : (k : ℕ) → k < length p.cells → get_or p.cells k 0 ≡ get_or q.cells k 0
    each k l = grind (arith, place_is k p.w wide)

    cells : p.cells ≡ q.cells
    cells = ext_get_or 0 p.cells q.cells long each

-- The least face of each patch.
abbrev pub least_at : (face : ℕ → ℕ) (ps : List Rectangle) (p : ℕ) → ℕ
least_at face ps p = least_of (map face (patch_at ps p).cells)

-- What a list of patches keeps while it grows.
pub record AreTiles (mesh : HalfEdges) (cut : Cut) (face : ℕ → ℕ) (ps : List Rectangle) : Type 0 where
  pub patch : (p : ℕ) → p < length ps → IsPatch mesh cut (patch_at ps p).w (patch_at ps p).h (cell_of (patch_at ps p))
  pub sized : (p : ℕ) → p < length ps → length (patch_at ps p).cells ≡ (patch_at ps p).h * (patch_at ps p).w
  pub ordered : (p : ℕ) → suc p < length ps → least_at face ps p < least_at face ps (suc p)

-- x is a side of a cell of a patch.
abbrev pub LiesInPatch : (mesh : HalfEdges) (patch : Rectangle) (x : ℕ) → Type 0
LiesInPatch mesh patch x = In mesh patch.w patch.h (cell_of patch) x

module _ {mesh : HalfEdges} (laws : IsQuadManifold mesh) {cut : Cut} (full : IsCut mesh cut) (face : ℕ → ℕ) where
  -- Patches of lists that have a dart in common are equal.
  pub shared : (ps qs : List Rectangle) → AreTiles mesh cut face ps → AreTiles mesh cut face qs → (p q x : ℕ)
      → p < length ps → q < length qs → LiesInPatch mesh (patch_at ps p) x → LiesInPatch mesh (patch_at qs q) x
      → patch_at ps p ≡ patch_at qs q
  shared ps qs a b p q x lp lq ip iq = same_rectangle _ _ (a.patch p lp).grid.wide
      (a.sized p lp) (b.sized q lq) (one_patch laws full (a.patch p lp) (b.patch q lq) x ip iq)

  -- So in one list they stand at one place,
  pub same_place : (ps : List Rectangle) → AreTiles mesh cut face ps → (p q x : ℕ) → p < length ps → q < length ps
      → LiesInPatch mesh (patch_at ps p) x → LiesInPatch mesh (patch_at ps q) x → p ≡ q
  same_place ps a p q x lp lq ip iq = increasing_place _ _ (record { step = a.ordered }) p q
      lp lq (ap (λ (r : Rectangle). least_of (map face r.cells)) (shared ps ps a a p q x lp lq ip iq))

  -- and each cell at one place there.
  pub once : (ps : List Rectangle) → AreTiles mesh cut face ps → (d p i j k q a b l : ℕ) → p < length ps → q < length ps
      → IsSide mesh (patch_at ps p) i j k d → IsSide mesh (patch_at ps q) a b l d → (p ≡ q) × (i ≡ a) × (j ≡ b)
  once ps t d p i j k q a b l lp lq one two =
      let inside : (p i j k : ℕ) → IsSide mesh (patch_at ps p) i j k d → LiesInPatch mesh (patch_at ps p) d =
      search rules in
      let same = same_place ps t p q d lp lq (inside p i j k one) (inside q a b l two) in
      let s : IsSide mesh (patch_at ps p) a b l d = rw same two in
      let r = spun laws k l _ _ (cc) in
      grind (arith, no_fold laws full (t.patch p lp).grid r.0 i j a b one.i_low one.j_low s.i_low s.j_low r.1)

  tiles : (ps : List Rectangle) → IsPartition mesh cut face ps → AreTiles mesh cut face ps
  tiles ps a = record { patch = a.patch; sized = a.sized; ordered = a.ordered }

  -- Each patch of one list stands in the other.
  found : (ps qs : List Rectangle) → IsPartition mesh cut face ps → IsPartition mesh cut face qs → (p : ℕ)
      → p < length ps → (q : ℕ) × (q < length qs) × (patch_at ps p ≡ patch_at qs q)
  found ps qs a b p lp =
      let grid = (a.patch p lp).grid in
      let (q, i, j, k, lq, s) = b.covers _ (grid.low 0 0 grid.wide grid.tall) in
      let there : LiesInPatch mesh (patch_at qs q) (cell_of (patch_at ps p) 0 0) =
      (k, record { a = i; b = j; a_low = s.i_low; b_low = s.j_low; is = s.is }) in
      (q, lq, shared ps qs (tiles ps a) (tiles qs b) p q _ lp lq (first_in laws full grid) there)

  least_there : {ps qs : List Rectangle} → IsPartition mesh cut face ps → IsPartition mesh cut face qs → (p : ℕ)
      → p < length ps → (q : ℕ) × (q < length qs) × (least_at face ps p ≡ least_at face qs q)
  least_there {ps} {qs} a b p l =
      let (q, low, is) = found ps qs a b p l in
      (q, low, ap (λ r. least_of (map face r.cells)) is)

pub one_list_law : OneListLaw
one_list_law mesh cut face laws full ps qs a b =
    let ra : AreIncreasing (least_at face ps) (length ps) = record { step = a.ordered } in
    let rb : AreIncreasing (least_at face qs) (length qs) = record { step = b.ordered } in
    let there = least_there laws full face a b in
    let back = least_there laws full face b a in
    let many : length ps ≡ length qs = same_many _ _ _ _ ra rb there back in
    ext_get_or (record { w = 0; h = 0; cells = [] }) ps qs many (λ p l.
    let (q, low, is) = found laws full face ps qs a b p l in
    let values = same_values _ _ _ _ ra rb there back p l in
    let place = increasing_place _ _ rb q p low (omega arith) (cc (is, values)) in
    cc (is, place))
