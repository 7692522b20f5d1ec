use Rattle.std.proofs.Common.{◌∙◌}

pub new-requires : Rattle.mesh_tests.proofs.layouts.cut_of.Goals.new-requires
new-requires c = (c.in_ok-layout.ensures.mesh.0, c.in_ok-layout.ensures.mesh.1 ∙ c.mesh.ensures)
