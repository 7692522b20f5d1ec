use Rattle.std.proofs.lemmas.Grind.{common_steps}
use Rattle.std.proofs.Common.{rules, ◌≡◌, ◌-◌, ◌*◌, length, arith}
use Rattle.{std.proofs.lemmas.List.length-map, qm_offsets.proofs.Spots.next_room, qm_offsets.proofs.Spots.term_room}
use Rattle.{def_remesh.specs.Numberings.tables_of, qm_offsets.specs.Fours.begins_of}
use Rattle.{qm_stitch.specs.Sizes.product_by, qm_stitch.proofs.build.patch_starts.Goals.After-last_of-in-loop-patch}
use Rattle.qm_stitch.proofs.build.patch_starts.Goals as goal

-- The product is that by the tables.
product : (c : After-last_of-in-loop-patch)
    → (c.last_of.result - c.args.less) * (c.last_of-in-loop-patch.result - c.args.less)
    ≡ product_by (tables_of c.args.sides.now) c.args.less c.loop-patch.patch
product c = search rules

pub overflow_mul-wide : goal.overflow_mul-wide
overflow_mul-wide c = omega (
  arith,
  product (goal.at.overflow_mul-wide c).After-last_of-in-loop-patch,
  term_room (product_by (tables_of c.args.sides.now) c.args.less) (length (tables_of c.args.sides.now))
      c.loop-patch.patch (omega (arith, length-map c.args.sides.now begins_of)),
)

pub push_start-requires-clause-small : goal.push_start-requires-clause-small
push_start-requires-clause-small c = grind (
  arith,
  common_steps,
  next_room (product_by (tables_of c.args.sides.now)
      c.args.less) (length (tables_of c.args.sides.now)) c.loop-patch.patch c.loop-patch.starts.begin.items,
)

pub loop-patch-preserved : goal.loop-patch-preserved
loop-patch-preserved c = c.in_ok-push_start.ensures _ _ c.loop-patch.invariant (search rules)
