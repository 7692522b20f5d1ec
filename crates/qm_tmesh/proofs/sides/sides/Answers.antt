use Rattle.std.proofs.Common.{rules, ◌≡◌, [], map, length, ◌∙◌, arith}
use Rattle.std.proofs.lemmas.List.{length-map, length_push, map-append}
use Rattle.qm_tmesh.{specs.Four.AreFour, specs.Four.four_of, proofs.ArcTables.read_patch, proofs.Walks.push_each}
use Rattle.{def_layout.specs.Arcs.path, def_cut.specs.Grids.rectangle, def_cut.specs.Grids.patch_at}
use Rattle.qm_tmesh.proofs.sides.sides.Goals as goal

pub four_sides-requires : goal.four_sides-requires
four_sides-requires c = (
  c.requires.0,
  rw (read_patch c.args.patches.now _ _ c.loop-patch-test.true c.patch-item.is) at (c.requires.1
      c.loop-patch.patch-index (omega (arith, c.loop-patch-test.true, length-map c.args.patches.now rectangle))),
)

pub loop-patch-preserved : goal.loop-patch-preserved
loop-patch-preserved c =
    let i = c.loop-patch.invariant in
    let runs = c.args.runs.now in
    let sides = map four_of c.loop-patch.sides.items in
    let four = four_of c.in_ok-four.four in
    let size : length sides ≡ c.loop-patch.patch-index = length-map c.loop-patch.sides.items four_of ∙ i.count in
    let read = read_patch c.args.patches.now _ _ c.loop-patch-test.true c.patch-item.is in
    record {
      count = search (rules, length_push);
      each = λ p l. rw (c.in_ok-push.ensures.items, map-append) (push_each (λ q x. AreFour c.args.mesh.now
          (map path runs.arcs.items) runs.uses.items (patch_at (map rectangle c.args.patches.now) q) x) sides four []
          (λ q m. i.each q (omega (arith, m, size))) (rw (size, read) c.in_ok-four.ensures) p
          (omega (arith, l, size, length_push sides four)));
    }
