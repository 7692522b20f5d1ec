use Rattle.def_report.specs.GraphText.{patch_lines, side_lines, size_line}
use Rattle.{def_layout.specs.Layouts.layout_of, qm_report.proofs.Texts.behind, qm_report.proofs.Texts.piece_behind}

pub loop-p-preserved : Rattle.qm_report.proofs.parts.push_patches.Goals.loop-p-preserved
loop-p-preserved c =
    let layout = layout_of c.args.t.now in
    let t = c.loop-p.text.items in
    let now = c.push_sides.new.text.items in
    let both = behind t (size_line layout c.loop-p.p) (side_lines layout c.loop-p.p)
    c.in_ok-push_size.ensures c.in_ok-push_sides.ensures in
    piece_behind (patch_lines layout) c.loop-p.p c.args.text.now.items c.loop-p.invariant both
