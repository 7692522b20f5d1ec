use Rattle.std.proofs.Common.{◌≡◌, ℕ, ◌<◌, map, subst, arith}
use Rattle.def_written.specs.NewFaces.{face_count, new_face}
use Rattle.qm_output.proofs.Prefixes.{of_error, stops_at_number, takes_number}
use Rattle.{std.specs.List.flat_map, std.specs.List.range_with_len, def_layout.specs.Layouts.gluing_of}
use Rattle.{def_mesh.specs.Faces.Face, def_remesh.specs.NewPoints.lengths_in, def_text.specs.Canonical.face_text}
use Rattle.qm_write.proofs.faces.put_faces.Goals as goal

pub returns-in_err-put_face-clause-part : goal.returns-in_err-put_face-clause-part
returns-in_err-put_face-clause-part g c =
    let laws = g.met.T.Output in
    let l = gluing_of c.args.new.now.layout in
    let lengths = lengths_in c.args.new.now.lengths in
    of_error c.from_residual.result (stops_at_number g.T.Output.takes g.T.Output.stops laws.stops_later
    laws.stops_before face_text (new_face l lengths) (face_count l lengths) c.loop-f.f _ _ _
    (subst (λ (n : ℕ). c.loop-f.f < n) c.faces-f-end.ensures c.loop-f-test.true) c.loop-f.invariant
    (subst (λ (face : Face). g.T.Output.stops c.loop-f.out c.put_face.new.out (face_text face)) c.face.ensures
    c.in_err-put_face.ensures.part))

pub loop-f-preserved : goal.loop-f-preserved
loop-f-preserved g c =
    let laws = g.met.T.Output in
    let l = gluing_of c.args.new.now.layout in
    let lengths = lengths_in c.args.new.now.lengths in
    takes_number g.T.Output.takes laws.takes_more face_text (new_face l lengths) c.loop-f.f _ _ _ c.loop-f.invariant
    (subst (λ (face : Face). g.T.Output.takes c.loop-f.out c.put_face.new.out (face_text face)) c.face.ensures
    c.in_ok-put_face.ensures.whole)

pub returns-clause-whole : goal.returns-clause-whole
returns-clause-whole g c =
    let l = gluing_of c.args.new.now.layout in
    let lengths = lengths_in c.args.new.now.lengths in
    let all : c.loop-f.f ≡ face_count l lengths = omega (
      arith,
      c.faces-f-end.ensures,
      c.loop-f-test.false,
      c.loop-f.auto.f-end,
    ) in
    subst (λ (n : ℕ). g.T.Output.takes c.args.out.now c.loop-f.out
    (flat_map face_text (map (new_face l lengths) (range_with_len 0 n)))) all c.loop-f.invariant
