use Rattle.std.proofs.{Common.refl, Common.sym, Common.◌∙◌, lemmas.Bool.eqb-true}
use Rattle.def_layout.specs.Gluings.{south, east, north, west}

pub returns-then-south-north : Rattle.mesh_tests.proofs.lengths.is_even.Goals.returns-then-south-north
returns-then-south-north c on = (
  sym (c.sum_on-south.ensures south refl) ∙ c.if-south-north.true ∙ c.sum_on-north.ensures north refl,
  sym (c.sum_on-east.ensures east refl) ∙ eqb-true c.sum_on-east.result c.sum_on-west.result on
      ∙ c.sum_on-west.ensures west refl,
)
