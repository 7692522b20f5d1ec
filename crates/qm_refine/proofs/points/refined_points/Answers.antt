use Rattle.std.proofs.Common.{◌≡◌, ◌≤◌, inr, ap, ◌∙◌, subst}
use Rattle.def_remesh.specs.{CutSoups.Regrid, NewPoints.lengths_in, NewPoints.multiple_of, Stitched.IsUnstitched}
use Rattle.def_remesh.specs.{Stitched.KeepsShapes, declared.limits.TheConstants.MAX_NEW_FACES}
use Rattle.{std.proofs.lemmas.Result.IfOk-weaker, def_layout.specs.Arcs.long_at, def_layout.specs.Lengths.Lengths}
use Rattle.{def_layout.specs.Layouts.gluing_of, qm_refine.proofs.points.refined_points.Goals.After-deref}
use Rattle.{std.specs.Prelude.IfErr, std.specs.Prelude.OnOk, def_written.specs.NewFaces.face_count}
use Rattle.qm_refine.proofs.points.refined_points.Goals as goal

-- The lengths are those multiples.
same : (c : After-deref) → lengths_in c.deref.result.now ≡ multiple_of c.args.by (long_at c.args.cut.layout.arcs)
same c = ap lengths_in c.deref.ensures.value ∙ c.in_ok-lengths.ensures.multiple

pub returns-clause-new : goal.returns-clause-new
returns-clause-new c = IfOk-weaker c.points_of.result _ _ (λ new is. (
  ap (λ (n : Regrid). n.soup) is,
  ap (λ (n : Regrid). n.layout) is,
  ap (λ (n : Regrid). lengths_in n.lengths) is ∙ same (goal.at.returns-clause-new c).After-deref,
  ap (λ (n : Regrid). n.shares) is,
))
    c.points_of.ensures.new

pub returns-clause-few : goal.returns-clause-few
returns-clause-few c = subst (λ (l : Lengths). OnOk c.points_of.result (face_count (gluing_of c.args.cut.layout) l
    ≤ MAX_NEW_FACES)) (same (goal.at.returns-clause-few c).After-deref) c.points_of.ensures.few

pub returns-clause-refused : goal.returns-clause-refused
returns-clause-refused c = subst (λ (l : Lengths). IfErr c.points_of.result (IsUnstitched (gluing_of c.args.cut.layout)
    l)) (same (goal.at.returns-clause-refused c).After-deref) c.points_of.ensures.refused

pub returns-clause-shape : goal.returns-clause-shape
returns-clause-shape c = subst (λ (l : Lengths). OnOk c.points_of.result (KeepsShapes c.args.cut.layout l))
    (same (goal.at.returns-clause-shape c).After-deref) c.points_of.ensures.shape

pub returns-clause-undoubled : goal.returns-clause-undoubled
returns-clause-undoubled c = c.points_of.ensures.safe (inr (
  c.args.by,
  c.requires.some,
  λ arc low. ap (λ (l : Lengths). l arc) (same (goal.at.returns-clause-undoubled c).After-deref),
))
