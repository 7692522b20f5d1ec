use Rattle.std.proofs.{Common.◌+◌, Common.sym, Common.◌∙◌, Common.subst, lemmas.List.with_items_is}
use Rattle.def_layout.specs.Layouts.{gluing_of, layout_of}
use Rattle.qm_blocks.specs.Spots.{HasSpots, HavePut, IsBefore, IsOnBlock}
use Rattle.{def_remesh.specs.NewPoints.lengths_in, qm_blocks.proofs.Tables.spots_more}

pub loop-block-preserved : Rattle.qm_blocks.proofs.spots.spots_of.Goals.loop-block-preserved
loop-block-preserved c =
    let l = gluing_of (layout_of c.args.measured.now.t.now) in
    let x = lengths_in c.args.measured.now.x.now in
    let block = c.loop-block.block in
    subst (HasSpots l x (IsBefore (block + 1))) (sym (with_items_is c.loop-block.table c.put_block.new.table
    (c.put_block.auto.table ∙ c.deref_mut.ensures.len))) (spots_more l x block c.loop-block.table.items
    c.put_block.new.table c.loop-block.invariant (subst (λ old. HavePut l x (IsOnBlock block) old c.put_block.new.table)
    c.deref_mut.ensures.value c.put_block.ensures))
