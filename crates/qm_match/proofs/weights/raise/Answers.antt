use Rattle.std.proofs.Common.{rules}
use Rattle.std.proofs.{Common.◌≡◌, Common.arith, lemmas.Int.ints, lemmas.Int.to_z-of_z}
use mir.{Val.to_z, Val.of_z, Syntax.w64}
use Rattle.qm_match.proofs.Raised.{raised_room}

pub returns-then-y-v : Rattle.qm_match.proofs.weights.raise.Goals.returns-then-y-v
returns-then-y-v c =
    let kept : to_z w64 (of_z w64 c.room_at-room.result) ≡ c.room_at-room.result = search rules in
    let ready = c.requires.ready in
    record {
      few = ready.few;
      costs = ready.costs;
      room = rw kept (raised_room c.args.g.now.small.lawful ready.room c.requires.vertex c.room_at-room.ensures
          (omega (arith, ints, c.if-y-v.true, kept, ready.room.small c.args.v, ready.few)));
    }
