use Rattle.std.proofs.Common.{length, ap, arith}
use Rattle.{mesh_laws.proofs.Chains.is_fan, mesh_laws.proofs.Chains.prev_of_low, qm_mesh.proofs.OneFan.inner_is}
use Rattle.qm_mesh.proofs.mesh.Mesh.is_inner.Goals as goal

pub all_paired-requires : goal.all_paired-requires
all_paired-requires c =
    let k = rw c.self.view_is at c.self.invariant in
    let h = is_fan c.args.self.now c.args.v c.fan.result.now c.fan.ensures in
    let long = ap length c.deref.ensures.value in
    record {
      darts = λ t l. omega (arith, long, k.partners.long, h.dart t l);
      before = λ t l. omega (arith, long, k.partners.long, prev_of_low c.args.self.now _ (h.dart t l));
    }

pub returns : goal.returns
returns c =
    let k = rw c.self.view_is at c.self.invariant in
    inner_is {twins = c.deref.result.now} k.mesh.manifold (rw c.deref.ensures.value k.partners) c.args.v
    c.fan.result.now (is_fan _ _ _ c.fan.ensures) c.all_paired.result c.all_paired.ensures
