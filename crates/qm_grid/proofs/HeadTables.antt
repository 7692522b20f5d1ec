-- The table of heads as corners are met in increasing order.
use Rattle.std.proofs.Common.{Bool, List, ap, arith, cond, get_or, inl, inr, length, refl, sym, true, ℕ, ◌*◌, ◌+◌, ◌/◌}
use Rattle.std.proofs.{Common.◌<◌, Common.◌∙◌, Common.◌≡◌, Common.◌≢◌, Common.◌≤◌, lemmas.Bool.cases_Bool}
use Rattle.{std.proofs.lemmas.Bool.cases_eq, std.specs.Cmp.both_ways, cut_laws.proofs.Classes.linked_back}
use Rattle.cut_laws.{proofs.Classes.links_join, proofs.Classes.step_spin, specs.Grown.IsGrown}
use Rattle.{def_cut.specs.Cuts.IsCorner, def_cut.specs.FullCut.is_on, def_known.specs.Cutting.IsCutting}
use Rattle.def_mesh.specs.{Darts.darts, Faces.Faces, HalfEdges.HalfEdges, HalfEdges.half_edges}
use Rattle.{face_laws.proofs.FullCuts.same_face, qm_grid.proofs.Laid.lies_linked, qm_grid.proofs.Laid.linked_lies}
use Rattle.qm_grid.specs.{Cells.grid_list, Heads.AreHeadsSoFar, Heads.AreOfOne, Heads.IsHead, Heads.lies_in}

module _ {faces : Faces} {cut : List Bool} (cutting : IsCutting faces cut) where
  abbrev mesh : HalfEdges
  mesh = half_edges faces

  -- A dart and the first one of its face are of one class.
  pub to_first : (x : ℕ) → AreOfOne faces cut x (4 * (x / 4))
  to_first x = let (k, is) = same_face faces cutting.laws x (4 * (x / 4)) (omega arith) in
      rw is (step_spin cutting.laws (is_on cut) x x k (0, refl))

  pub join : (d e f : ℕ) → AreOfOne faces cut d e → AreOfOne faces cut e f → AreOfOne faces cut d f
  join d e f = links_join cutting.laws (is_on cut) d e f

  pub back : (d e : ℕ) → d < darts faces → AreOfOne faces cut d e → AreOfOne faces cut e d
  back d e l a = linked_back cutting.laws cutting.full d e l a

  -- Nothing is to be done.
  pub heads_skip : {d : ℕ} {heads : List ℕ} → AreHeadsSoFar faces cut d heads
      → (IsCorner (half_edges faces) (is_on cut) d → get_or heads (d / 4) 0 ≢ length cut)
      → AreHeadsSoFar faces cut (d + 1) heads
  heads_skip {d} so known = record {
    long = so.long;
    right = so.right;
    alike = so.alike;
    first = λ e l c. elim (cases_eq e d) [ inl s ↦ rw s (known (rw s at c)) | inr ne ↦ so.first e (omega arith) c ];
  }

  -- The class of d has its head.
  module _ {d w h : ℕ} (corner : IsCorner (half_edges faces) (is_on cut) d)
      (grown : IsGrown (half_edges faces) (is_on cut) d w h) {heads : List ℕ} (new : List ℕ)
      (so : AreHeadsSoFar faces cut d heads)
      (none : get_or heads (d / 4) 0 ≡ length cut) (long : length new ≡ length heads) (put : (f : ℕ) → f < length heads
      → get_or new f 0 ≡ cond (lies_in (grid_list (half_edges faces) d w h) f) d (get_or heads f 0)) where
    abbrev lies : (f : ℕ) → Bool
    lies f = lies_in (grid_list mesh d w h) f

    new_is : (f : ℕ) → f < length faces → get_or new f 0 ≡ cond (lies f) d (get_or heads f 0)
    new_is f l = put f (omega (arith, so.long))

    linked : (f : ℕ) → lies f ≡ true → AreOfOne faces cut d (4 * f)
    linked f on = lies_linked cutting corner grown f on

    there : (f : ℕ) → AreOfOne faces cut d (4 * f) → lies f ≡ true
    there f a = let e : 4 * f / 4 ≡ f = omega arith in
        ap (lies_in (grid_list mesh d w h)) (sym e) ∙ linked_lies cutting corner grown (4 * f) a

    same_lies : (f g : ℕ) → f < length faces → AreOfOne faces cut (4 * f) (4 * g) → lies f ≡ lies g
    same_lies f g lf a = both_ways (lies f) (lies g) (λ on. there g (join d (4 * f) (4 * g) (linked f on) a))
        (λ on. there f (join d (4 * g) (4 * f) (linked g on) (back (4 * f) (4 * g) (omega arith) a)))

    pub heads_more : AreHeadsSoFar faces cut (d + 1) new
    heads_more = record {
      long = long ∙ so.long;
      right = λ f l ne. elim (cases_Bool (lies f)) [
        | inl on ↦ rw (new_is f l, on) (record {
          corner = corner;
          linked = back d (4 * f) corner.0 (linked f on);
          -- a corner of the class before d would have given it a head
          least = λ x a c.
              let same = so.alike (d / 4) (x / 4) (omega (arith, corner.0)) (omega (arith, c.0)) (join _ x _
              (join _ d _ (back d _ corner.0 (to_first d)) (join d (4 * f) x (linked f on) a)) (to_first x)) in
              omega (arith, λ (l : x < d). so.first x l c (same ∙ none));
        })
        | inr off ↦ rw (new_is f l, off) (so.right f l (λ q. ne (rw (new_is f l, off) q)))
      ];
      alike = λ f g lf lg a. cc (new_is f lf, new_is g lg, same_lies f g lf a, so.alike f g lf lg a);
      first = λ e l c q.
          let is = new_is (e / 4) (omega (arith, c.0)) in
          grind (arith, cases_eq e d, is, there (d / 4) (to_first d), so.first e, cutting.long, corner.0);
    }

  -- At the end each class has its head, since each has a corner.
  pub heads_done : {n : ℕ} {heads : List ℕ} → AreHeadsSoFar faces cut n heads → darts faces ≤ n → (f : ℕ)
      → f < length faces → IsHead faces cut f (get_or heads f 0)
  heads_done so all f l =
      let (e, k, links, corner) = cutting.full.corner (4 * f) (omega arith) in
      let same = so.alike f (e / 4) l (omega (arith, corner.0))
      (join (4 * f) e (4 * (e / 4)) (k, links) (to_first e)) in
      so.right f l (λ q. so.first e (omega (arith, corner.0)) corner (same ∙ q))
