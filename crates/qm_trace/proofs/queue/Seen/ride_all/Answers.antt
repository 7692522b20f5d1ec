use Rattle.{std.proofs.Common.rules, std.proofs.Common.◌∙◌, std.proofs.lemmas.List.with_items_is}
use Rattle.qm_trace.proofs.Instants.{next_riders}

pub returns : Rattle.qm_trace.proofs.queue.Seen.ride_all.Goals.returns
returns c marks k i = with_items_is c.args.riders.now c.ride_each.new.riders
    (c.ride_each.auto.riders ∙ c.deref_mut.ensures.len) ∙ next_riders c.faces-known.ensures.mesh.manifold i
    c.ride_each.new.riders (search rules) (rw c.deref_mut.ensures.value at c.ride_each.ensures)
