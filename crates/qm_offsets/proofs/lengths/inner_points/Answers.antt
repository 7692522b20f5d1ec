use Rattle.std.proofs.Common.{◌≡◌, ◌-◌, length, get_or, refl, arith}
use Rattle.{std.specs.Prelude.slice_index, def_remesh.specs.NewPoints.lengths_in, qm_offsets.proofs.Spots.next_room}
use Rattle.qm_offsets.proofs.lengths.inner_points.Goals as goal

pub push_start-requires-clause-small : goal.push_start-requires-clause-small
push_start-requires-clause-small c =
    let same : slice_index c.args.lengths.now c.loop-length.length-index
    ≡ get_or c.args.lengths.now c.loop-length.length-index 0 = refl in
    omega (
      arith,
      same,
      next_room (λ arc. lengths_in c.args.lengths.now arc - 1) (length c.args.lengths.now) c.loop-length.length-index
          c.loop-length.starts.begin.items c.loop-length-test.true c.loop-length.invariant,
      c.requires.small,
    )
