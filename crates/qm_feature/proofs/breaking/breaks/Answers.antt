use Rattle.std.proofs.{Common.sym, Common.◌∙◌, Common.arith, lemmas.List.FromFn.map-range_with_len_more}
use Rattle.def_feature.specs.Marks.{is_break}

pub loop-v-preserved : Rattle.qm_feature.proofs.breaking.breaks.Goals.loop-v-preserved
loop-v-preserved c = c.in_ok-push.ensures.items ∙ (rw (c.loop-v.invariant, c.is_break.ensures)
    (sym (map-range_with_len_more (is_break c.args.mesh.now c.args.marks.now) 0 c.loop-v.v c.loop-v.v (omega arith))))
