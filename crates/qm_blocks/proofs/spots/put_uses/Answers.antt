use Rattle.std.proofs.Common.{◌+◌, ◌<◌, true, Some, length, ap, sym, ◌∙◌, subst, arith}
use Rattle.def_remesh.specs.{NewPoints.lengths_in, Numberings.sizes_on, Numberings.used_at}
use Rattle.qm_offsets.proofs.{Spots.count_step, Spots.term_room, Whole.read_size, Whole.read_used}
use Rattle.qm_blocks.proofs.Tables.{key_low, use_more}
use Rattle.{std.specs.Prelude.slice_set, qm_blocks.specs.Spots.key_of, qm_blocks.specs.Spots.HasUses}
use Rattle.qm_blocks.proofs.spots.put_uses.Goals as goal

pub overflow_add-from : goal.overflow_add-from
overflow_add-from c =
    let room = term_room (sizes_on c.args.side.now (lengths_in c.args.x.now)) (length c.args.side.now)
    c.loop-used.used-index c.loop-used-test.true in
    let size = read_size c.args.side.now (lengths_in c.args.x.now) c.loop-used.used-index c.loop-used-test.true in
    omega (arith, c.loop-used.invariant.from, c.requires.summed.small)

pub loop-used-preserved : goal.loop-used-preserved
loop-used-preserved c =
    let side = c.args.side.now in
    let x = lengths_in c.args.x.now in
    let k = c.loop-used.used-index in
    let key = ap key_of (read_used side k c.loop-used-test.true) ∙ sym c.key_of.ensures in
    let arc = c.requires.summed.low k (record { arc = 0; forward = true }) c.loop-used-test.true in
    let low : key_of (used_at side k) < length c.loop-used.table =
    omega (arith, key_low (used_at side k) (length c.args.x.now) arc) in
    record {
      uses = subst (HasUses side (lengths_in c.args.x.now) c.args.block c.args.name (k + 1) c.args.table.now)
          (λ i. slice_set c.loop-used.table (key i) (Some (
            c.args.block,
            c.args.name,
            (sym c.loop-used.invariant.from) i,
          ))) (use_more side (lengths_in c.args.x.now) c.args.block c.args.name k c.args.table.now c.loop-used.table
          low c.loop-used.invariant.uses);
      from = omega (arith, count_step (sizes_on side x) k, read_size side x k c.loop-used-test.true);
    }
