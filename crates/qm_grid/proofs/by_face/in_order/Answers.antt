use Rattle.std.proofs.Common.{ℕ, ◌<◌, ◌||◌, false, List, [], ◌∷◌, map, length, get_or, ap, ◌∙◌, arith}
use Rattle.{std.proofs.lemmas.List.map-append, def_cut.specs.Grids.rectangle, qm_grid.specs.Heads.lies_in}
use Rattle.qm_grid.proofs.by_face.in_order.Goals.{then-not-seen-f+in_ok-patch+in_ok-push, else-not-seen-f}
use Rattle.qm_grid.proofs.{Laid.cells_low, Found.found_skip, Found.found_more, Found.found_done}
use Rattle.qm_grid.proofs.by_face.in_order.Goals as goal

pub mark-requires : goal.mark-requires
mark-requires c =
    let head = c.requires.heads c.loop-f.f (omega (arith, c.loop-f-test.true, c.requires.long)) in
    let low = rw (← (c.deref.ensures.value ∙ c.in_ok-patch.ensures.cells)) at
    (cells_low c.is_full.ensures head.corner c.in_ok-patch.ensures.grown) in
    λ k l. omega (arith, low k l, c.loop-f.invariant.long)

pub loop-f-preserved : goal.loop-f-preserved
loop-f-preserved c =
    let low : c.loop-f.f < length c.args.cut.now.faces = omega (arith, c.loop-f-test.true, c.requires.long) in
    elim c.if-not-seen-f.branch [
      | then-not-seen-f+in_ok-patch+in_ok-push w ↦
          let list = ap (map rectangle) w.in_ok-push.ensures.items
          ∙ map-append rectangle c.loop-f.found.items (w.in_ok-patch.patch ∷ []) in
          rw (w.seen-is, w.found-is, list) (found_more c.is_full.ensures (rectangle w.in_ok-patch.patch) low
          (c.requires.heads c.loop-f.f low) w.in_ok-patch.ensures.grown w.in_ok-patch.ensures.cells _ c.loop-f.invariant
          w.if-not-seen-f.true w.mark.auto.seen (λ g l. w.mark.ensures g l
          ∙ ap (λ (xs : List ℕ). (get_or c.loop-f.seen g false || lies_in xs g)) w.deref.ensures.value))
      | else-not-seen-f w ↦ rw (w.seen-is, w.found-is) (found_skip c.is_full.ensures c.loop-f.invariant
          w.if-not-seen-f.false)
    ]

pub returns : goal.returns
returns c = record {
  patches = found_done c.is_full.ensures c.loop-f.invariant (omega (arith, c.loop-f-test.false, c.requires.long));
}
