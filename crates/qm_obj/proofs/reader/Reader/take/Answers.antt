use Rattle.{std.proofs.Common.rules, std.proofs.Common.◌∙◌, qm_obj.proofs.KeptLemmas.fits_face}
use Rattle.{qm_obj.proofs.KeptLemmas.fits_position, qm_obj.specs.Lines.line_as}
use Rattle.qm_obj.proofs.reader.Reader.take.Goals as goal

pub invariant_of-self : goal.invariant_of-self
invariant_of-self c = record {
  fits = fits_position (line_as c.args.line c.args.size c.args.text.now) _ c.args.self.now.fits
      ((search rules) ∙ c.in-Position.is) c.push.ensures;
}

pub invariant_of-self-in-Face : goal.invariant_of-self-in-Face
invariant_of-self-in-Face c = record {
  fits = fits_face (line_as c.args.line c.args.size c.args.text.now) _ c.args.self.now.fits (search rules)
      c.push_face.ensures.faces c.push_face.ensures.lines;
}
