use Rattle.std.proofs.Common.{refl}
use Rattle.qm_top.proofs.cuts.traced_cut.Goals as goal

pub new-requires : goal.new-requires
new-requires c = rw (← c.mesh.ensures) c.in_ok-layout.ensures.mesh

pub returns : goal.returns
returns c = rw (c.new.ensures, ← c.mesh.ensures) (record {
  soup = refl;
  traced = c.in_ok-layout.ensures.traced;
  laid = c.in_ok-layout.ensures.mesh;
})
