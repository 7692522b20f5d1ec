use Rattle.std.proofs.Common.{rules, length, arith}
use Rattle.def_remesh.specs.{NewPoints.lengths_in, Numberings.sizes_on}
use Rattle.qm_offsets.proofs.{Spots.count_step, Spots.term_room, Whole.read_size}
use Rattle.qm_offsets.proofs.sizes.size_of.Goals as goal

pub overflow_add-size : goal.overflow_add-size
overflow_add-size c = omega (
  arith,
  term_room (sizes_on c.args.side.now (lengths_in c.args.lengths.now)) (length c.args.side.now)
      c.loop-used.used-index c.loop-used-test.true,
  read_size c.args.side.now (lengths_in c.args.lengths.now) c.loop-used.used-index c.loop-used-test.true,
  c.loop-used.invariant,
  c.requires.small,
)

pub loop-used-preserved : goal.loop-used-preserved
loop-used-preserved c = search (rules, count_step, read_size)
