-- Each arc of the cut is marked in all its edges or in none.
use Rattle.std.proofs.Common.{rules, ◌≡◌, ℕ, zero, suc, ◌<◌, Bool, true, false, ◌&&◌, List, Some, sym, ap, ◌∙◌, refl}
use Rattle.std.proofs.{Common.inl, Common.inr, Common.arith, lemmas.Bool.and_parts, lemmas.Bool.false≢true}
use Rattle.def_mesh.specs.Darts.{darts, from_of, to_of, next_of, prev_of, twin_of}
use Rattle.def_mesh.specs.HalfEdges.{HalfEdges, IsQuadManifold, half_edges}
use Rattle.def_cut.specs.{Cuts.IsCross, Cuts.IsCut, FullCut.is_on, Steps.step_east, Steps.easts}
use Rattle.def_feature.specs.{Laws.MarkedArcLaw, Beside.IsCutBeside, Beside.BesideArcLaw, Marks.AreMarks}
use Rattle.cut_laws.proofs.Crosses.{at_c, low_b, low_c}
use Rattle.layout_laws.proofs.Runs.{GoesStraight, run_low, run_goes}
use Rattle.feature_laws.proofs.Breaks.{break_turns, from_fan, twin_on, two_ways}
use Rattle.feature_laws.proofs.{Conforming.marked_law, Conforming.soon_cut, First.origin_soon}
use Rattle.{std.proofs.lemmas.Option.same_Some, def_mesh.specs.Faces.Faces, def_mesh.specs.Manifold.IsManifold}
use Rattle.{def_mesh.specs.Vertices.fan_of, def_layout.specs.Arcs.IsRun, def_layout.specs.Nodes.is_node}
use Rattle.{def_layout.specs.Nodes.AreNodes, def_feature.specs.Marked.marked_cut}
use Rattle.{face_laws.proofs.FullCuts.full_cut_law, layout_laws.proofs.FaceNodes.are_nodes}
use Rattle.{sum_laws.proofs.Tests.same_test, mesh_laws.proofs.Chains.manifold_law, motion_laws.proofs.Among.any_where}

module _ (faces : Faces) (m : IsManifold faces) (marks : List Bool) (marked : AreMarks faces marks)
    (cut_marks : List Bool) (kept : IsCutBeside faces marks cut_marks) where
  abbrev mesh : HalfEdges
  mesh = half_edges faces

  abbrev laws : IsQuadManifold (half_edges faces)
  laws = manifold_law faces m

  abbrev east : ℕ → ℕ
  east e = step_east (half_edges faces) e

  abbrev cut : IsCut (half_edges faces) (is_on cut_marks)
  cut = ((full_cut_law faces cut_marks m).0 kept.full).1

  abbrev nodes : AreNodes (half_edges faces) (is_on cut_marks) (is_node faces cut_marks)
  nodes = are_nodes faces laws cut_marks cut

  -- At a vertex that is no node a marked line goes straight on.
  opposite : (x a b c : ℕ) → x < darts faces → IsCross mesh x a b c → is_node faces cut_marks (from_of faces x) ≡ false
      → is_on marks x ≡ true → is_on marks b ≡ true
  opposite x a b c l k inner on =
      let lc = low_c laws x a b c l k in
      elim (two_ways faces m marks marked x a b c l on k) [
        | inl yb ↦ yb
        -- The cut would turn from x to the edge on its left.
        | inr (inl sides) ↦ absurd (false≢true (sym inner ∙ (ap (is_node faces cut_marks)
            (sym (at_c laws x a b c l k)) ∙ nodes.corner c lc (kept.kept c lc sides.1) (cut.alike x (prev_of c) l
            (laws.twin_twin (prev_of c) x (laws.prev_low c lc) k.last) ∙ kept.kept x l on))))
        | inr (inr y) ↦
            let found = any_where (λ e. is_on cut_marks e && is_on cut_marks (prev_of e))
            (fan_of faces (from_of faces x)) (kept.turned x l y) in
            let f = from_fan faces (from_of faces x) found.0 found.1 in
            let p = and_parts (is_on cut_marks found.0) (is_on cut_marks (prev_of found.0)) found.2 in
            absurd (false≢true
            (sym inner ∙ (ap (is_node faces cut_marks) (sym f.1) ∙ nodes.corner found.0 f.0 p.0 p.1)))
      ]

  -- So it does along an arc,
  onward : (e : ℕ) → e < darts faces → GoesStraight mesh (is_on cut_marks) e
      → is_node faces cut_marks (to_of faces e) ≡ false → is_on marks e ≡ true → is_on marks (east e) ≡ true
  onward e l g inner on =
      let (t, w) = twin_on faces m marks marked e l on in
      let lt = laws.twin_low e t l w in
      let t_on : is_on marks t ≡ true = marked.alike e t l w ∙ on in
      let t_twin = laws.twin_twin e t l w in
      let there : is_node faces cut_marks (from_of faces t) ≡ false =
      ap (is_node faces cut_marks) (laws.twin_ends e t l w).0 ∙ inner in
      let (a, b, c, k) = nodes.through t e lt (kept.kept t lt t_on) t_twin there in
      let left : next_of e ≡ c = ap next_of (same_Some e (prev_of c) (sym t_twin ∙ laws.twin_twin (prev_of c) t
      (laws.prev_low c (low_c laws t a b c lt k)) k.last)) ∙ laws.next_prev c in
      let is : b ≡ step_east (half_edges faces) e = sym (laws.next_prev b) ∙ (ap next_of (same_Some (prev_of b)
      (prev_of (east e)) (sym (laws.twin_twin (prev_of b) c (laws.prev_low b (low_b laws t a b c lt k)) k.third) ∙
      (ap (twin_of faces) (sym left) ∙ g.over))) ∙ laws.next_prev (east e)) in
      ap (is_on marks) (sym is) ∙ opposite t a b c lt k there t_on

  -- and back.
  backward : (e : ℕ) → e < darts faces → GoesStraight mesh (is_on cut_marks) e
      → is_node faces cut_marks (to_of faces e) ≡ false → is_on marks (east e) ≡ true → is_on marks e ≡ true
  backward e l g inner on =
      let twin = twin_on _ m _ marked _ g.low on in
      let there : is_node faces cut_marks (from_of faces (step_east (half_edges faces) e)) ≡ false =
      ap (is_node faces cut_marks) g.from ∙ inner in
      let (a, b, c, k) = nodes.through (east e) twin.0 g.low (kept.kept (east e) g.low on) twin.1 there in
      let right : a ≡ next_of e = same_Some a (next_of e)
      (sym k.first ∙ laws.twin_twin (next_of e) (prev_of (east e)) (laws.next_low e l) g.over) in
      let is : twin_of faces e ≡ Some b = ap (twin_of faces) (sym (ap prev_of right ∙ laws.prev_next e)) ∙ k.second in
      sym (marked.alike e b l is) ∙ opposite _ a b c g.low k there on

  along : (s n : ℕ) → IsRun mesh (is_on cut_marks) (is_node faces cut_marks) s n → (k : ℕ) → k < n
      → is_on marks (easts mesh s k) ≡ is_on marks s
  along s n run zero l = refl
  along s n run (suc k) l =
      let e = easts mesh s k in
      let low = run_low mesh laws (is_on cut_marks) cut (is_node faces cut_marks) nodes s n run k (omega arith) in
      let goes = run_goes mesh laws (is_on cut_marks) cut (is_node faces cut_marks) nodes s n run k l in
      same_test _ _ (backward e low goes (run.inside k l)) (onward e low goes (run.inside k l))
      ∙ along s n run k (omega arith)

pub beside_arc_law : BesideArcLaw
beside_arc_law faces marks cut_marks m marked kept s n run k l = along faces m marks marked cut_marks kept s n run k l

-- The cut that is traced beside marks is such a cut.
pub traced_beside : (faces : Faces) (m : IsManifold faces) (marks : List Bool) (marked : AreMarks faces marks)
    → IsCutBeside faces marks (marked_cut faces marks)
traced_beside faces m marks marked =
    let kept = marked_law faces marks m marked in
    search (rules, break_turns, soon_cut, origin_soon)

pub marked_arc_law : MarkedArcLaw
marked_arc_law faces marks m marked s n run k l = search (rules, along, traced_beside)
