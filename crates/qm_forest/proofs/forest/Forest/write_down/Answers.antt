use Rattle.std.proofs.Common.{subst}
use Rattle.qm_forest.proofs.Increases.{IsPlaced, has_room, placed, room_begun}
use Rattle.qm_forest.proofs.forest.Forest.write_down.Goals as goal

pub choose-requires-clause-room : goal.choose-requires-clause-room
choose-requires-clause-room c = has_room (subst IsPlaced c.self.view_is (placed c.self.invariant)) c.requires.valid.1
    c.room.invariant c.room.view_is c.requires.valid.2

pub choose-requires-clause-begun : goal.choose-requires-clause-begun
choose-requires-clause-begun c = room_begun (subst IsPlaced c.self.view_is (placed c.self.invariant))
    c.requires.valid.1 c.room.invariant c.room.view_is c.requires.valid.2

pub returns-clause-outline : goal.returns-clause-outline
returns-clause-outline c =
    let it : IsPlaced c.args.self = subst IsPlaced c.self.view_is (placed c.self.invariant) in (
      c.choose.new.sets.items,
      record {
        order = c.choose.ensures.sets;
        y = c.list_vertex_weights.ensures;
        z = rw c.deref.ensures.value at c.list_set_weights.ensures;
        names = c.list_entries-near.ensures.entries.0;
        named = rw c.deref-2.ensures.value at c.list_entries-near.ensures.entries.1;
        entries = rw c.deref-2.ensures.value at c.list_entries-near.ensures.entries.2;
        whole = it.whole;
        around = it.around;
        inner = it.inner;
        live = it.live;
      },
    )

pub returns-clause-chosen : goal.returns-clause-chosen
returns-clause-chosen c =
    (c.choose.new.round, c.choose.ensures.chosen, rw c.deref-3.ensures.value at c.list_marked.ensures)
