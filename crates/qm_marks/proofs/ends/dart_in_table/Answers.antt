use Rattle.std.proofs.Common.{rules, ◌/◌, ◌^◌, ltb, ap, ◌∙◌}
use Rattle.{def_mesh.specs.Vertices.faces_at, qm_marks.specs.declared.ends.TheConstants.FEW}
use Rattle.qm_marks.proofs.EdgeMarks.{in_table, not_in_table}
use Rattle.qm_marks.proofs.ends.dart_in_table.Goals as goal

pub returns-then-keys-place-clause-some : goal.returns-then-keys-place-clause-some
returns-then-keys-place-clause-some c =
    in_table c.args.mesh.now FEW c.args.keys.now c.requires.ends (search rules) (search rules) c.args.u c.args.v
    c.ranges.v.fits c.place_of-place.result c.if-place-keys.true
    (c.if-keys-place.true ∙ ap (λ x. x / 2 ^ 32) c.key_for-key.ensures)

pub returns-else-place-keys-clause-none : goal.returns-else-place-keys-clause-none
returns-else-place-keys-clause-none c none =
    not_in_table c.args.mesh.now FEW c.args.keys.now c.requires.ends (search rules) (search rules) c.args.u c.args.v
    c.ranges.v.fits c.place_of-place.result (rw (← c.key_for-key.ensures) c.place_of-place.ensures) (search rules)
    (λ d l from. ap (λ v. ltb FEW (faces_at c.args.mesh.now v)) from ∙ c.requires.busy)
