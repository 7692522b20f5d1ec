use Rattle.std.proofs.Common.{◌<◌, length, arith}
use Rattle.qm_pool.proofs.Places.{left_low, given_free}
use Rattle.qm_pool.proofs.pool.Pool.give.Goals as goal

pub index_mut-requires-2 : goal.index_mut-requires-2
index_mut-requires-2 c =
    let l : c.self.inside.left < length c.self.inside.free.items = left_low c.self.inside.nodes.items _ _ c.args.id.0
    c.node_at-node.result c.self.invariant (rw c.deref.ensures.value at c.node_at-node.ensures) in
    omega (arith, c.self.inside.free.ok.0)

pub overflow_add-self : goal.overflow_add-self
overflow_add-self c =
    let l : c.self.inside.left < length c.self.inside.free.items = left_low c.self.inside.nodes.items _ _ c.args.id.0
    c.node_at-node.result c.self.invariant (rw c.deref.ensures.value at c.node_at-node.ensures) in
    omega (arith, c.self.invariant.room, c.self.invariant.few)

pub invariant_of-self : goal.invariant_of-self
invariant_of-self c = given_free c.self.inside.nodes.items _ _ c.args.id.0 c.node_at-node.result c.self.invariant
    (rw c.deref.ensures.value at c.node_at-node.ensures)
