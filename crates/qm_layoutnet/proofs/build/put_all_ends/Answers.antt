use Rattle.std.proofs.Common.{◌≡◌, ◌<◌, true, map, length, ap, arith}
use Rattle.std.proofs.lemmas.List.{get_or_default, length-map}
use Rattle.def_layout.specs.{declared.tmesh.SideArc.SideArc, Arcs.path, Gluings.Slot, Layouts.layout_of}
use Rattle.{def_cut.specs.Grids.rectangle, qm_layoutnet.proofs.EndTables.patch_more}
use Rattle.qm_layoutnet.proofs.build.put_all_ends.Goals as goal

pub put_four-requires-clause-uses : goal.put_four-requires-clause-uses
put_four-requires-clause-uses c s k d less =
    let t = c.args.t.now in
    let slot : Slot = record { patch = c.loop-p.p; side = s; at = k } in
    let p_low : c.loop-p.p < length (map rectangle t.patches.items) =
    omega (arith, length-map t.patches.items rectangle) in
    let low = c.requires.laid.paved.arc_low slot (record { patch_low = p_low; low = less }) in
    let same = get_or_default _ k d (record { arc = 0; forward = true }) less in
    omega (arith, ap (λ (u : SideArc). u.arc) same, length-map t.arcs.items path)

pub loop-p-preserved : goal.loop-p-preserved
loop-p-preserved c =
    let t = c.args.t.now in
    let p_low : c.loop-p.p < length (map rectangle t.patches.items) =
    omega (arith, c.len-p-end.ensures, c.requires.sided, length-map t.patches.items rectangle) in
    record {
      done = λ set begin. rw c.put_four.ensures
          (patch_more (layout_of t) c.requires.laid c.loop-p.p p_low (c.loop-p.invariant.done set begin));
      long = omega (arith, c.put_four.auto.arcs, c.loop-p.invariant.long);
    }

pub returns : goal.returns
returns c set begin =
    let all : c.loop-p.p ≡ length c.args.t.now.patches.items = omega arith in
    rw (← all) (c.loop-p.invariant.done set begin)
