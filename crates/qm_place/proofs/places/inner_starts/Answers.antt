use Rattle.qm_offsets.proofs.Spots.{next_room, term_room}
use Rattle.{std.proofs.Common.length, std.proofs.Common.arith, qm_place.specs.Spots.inner_of}
use Rattle.qm_place.proofs.places.inner_starts.Goals as goal

pub overflow_mul-rim : goal.overflow_mul-rim
overflow_mul-rim c = omega (
  arith,
  term_room (inner_of c.args.rims.now) (length c.args.rims.now) c.loop-rim.rim-index c.loop-rim-test.true,
)

pub push_start-requires-clause-small : goal.push_start-requires-clause-small
push_start-requires-clause-small c = omega (
  arith,
  next_room (inner_of c.args.rims.now) (length c.args.rims.now) c.loop-rim.rim-index c.loop-rim.starts.begin.items
      c.loop-rim-test.true c.loop-rim.invariant,
)
