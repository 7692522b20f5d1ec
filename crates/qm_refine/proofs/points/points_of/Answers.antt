use Rattle.std.proofs.Common.{◌≤◌, ℕ, List, subst}
use Rattle.def_remesh.specs.{NewPoints.lengths_in, declared.limits.TheConstants.MAX_NEW_FACES}
use Rattle.{def_layout.specs.Layouts.gluing_of, def_written.specs.NewFaces.face_count}

pub returns-clause-few : Rattle.qm_refine.proofs.points.points_of.Goals.returns-clause-few
returns-clause-few c = subst (λ (xs : List ℕ). face_count (gluing_of c.args.cut.layout) (lengths_in xs) ≤ MAX_NEW_FACES)
    c.in_ok-numbering.ensures.lengths c.in_ok-numbering.ensures.numbering.few
