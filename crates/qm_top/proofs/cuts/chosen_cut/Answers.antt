use Rattle.std.proofs.Common.{refl}
use Rattle.qm_top.proofs.cuts.chosen_cut.Goals as goal

pub chosen_layout-requires : goal.chosen_layout-requires
chosen_layout-requires c = rw c.mesh.ensures c.requires

pub new-requires : goal.new-requires
new-requires c = rw (← c.mesh.ensures) c.in_ok-layout.ensures.mesh

pub returns : goal.returns
returns c = rw (c.new.ensures, ← c.mesh.ensures) (record {
  soup = refl;
  chosen = c.in_ok-layout.ensures.chosen;
  laid = c.in_ok-layout.ensures.mesh;
})
