use Rattle.std.proofs.{Common.◌≡◌, Common.length, Common.arith, Common.ap, lemmas.List.length-map}
use Rattle.def_remesh.specs.{NewPoints.lengths_in, CutSoups.CutSoup}
use Rattle.qm_map.proofs.{PatchCells.all_lines, cells.put_cells.Goals.After-len-patch-end}
use Rattle.qm_output.proofs.Prefixes.{of_error, stops_at_number, takes_number}
use Rattle.{def_layout.specs.Layouts.Layout, def_cut.specs.Grids.rectangle, qm_map.specs.PatchLines.patch_lines}
use Rattle.qm_map.proofs.cells.put_cells.Goals as goal

-- There are as many patches as the layout has.
many : (g : _) (c : After-len-patch-end g) → c.len-patch-end.result ≡ length c.args.new.now.layout.patches
many g c = omega (
  arith,
  c.len-patch-end.ensures,
  c.layout.result.now.patches.ok.0,
  length-map c.layout.result.now.patches.items rectangle,
  ap (λ (p : Layout). length p.patches) c.layout.ensures.layout,
  ap (λ (k : CutSoup). length k.layout.patches) c.cut.ensures,
)

pub put_patch-requires : goal.put_patch-requires
put_patch-requires g c =
    omega (arith, c.loop-patch-test.true, many g (goal.at.put_patch-requires g c).After-len-patch-end)

pub returns-in_err-put_patch-clause-part : goal.returns-in_err-put_patch-clause-part
returns-in_err-put_patch-clause-part g c =
    let laws = g.met.T.Output in
    let t = c.args.new.now.layout in
    let shares = c.args.new.now.shares in
    let x = lengths_in c.args.new.now.lengths in
    let all = many g (goal.at.returns-in_err-put_patch-clause-part g c).After-len-patch-end in
    of_error c.from_residual.result (rw (← all_lines t shares x) (stops_at_number g.T.Output.takes g.T.Output.stops
    laws.stops_later laws.stops_before (patch_lines t shares x) (λ p. p) (length t.patches) c.loop-patch.patch _ _ _
    (omega (arith, c.loop-patch-test.true, all)) c.loop-patch.invariant c.in_err-put_patch.ensures.part))

pub loop-patch-preserved : goal.loop-patch-preserved
loop-patch-preserved g c = takes_number g.T.Output.takes g.met.T.Output.takes_more
    (patch_lines c.args.new.now.layout c.args.new.now.shares (lengths_in c.args.new.now.lengths)) (λ p. p)
    c.loop-patch.patch _ _ _ c.loop-patch.invariant c.in_ok-put_patch.ensures.whole

pub returns-clause-whole : goal.returns-clause-whole
returns-clause-whole g c =
    let new = c.args.new.now in
    let ends = many g (goal.at.returns-clause-whole g c).After-len-patch-end in
    let all : c.loop-patch.patch ≡ length new.layout.patches =
    omega (arith, c.loop-patch-test.false, c.loop-patch.auto.patch-end, ends) in
    rw (← all_lines new.layout new.shares (lengths_in new.lengths), ← all) c.loop-patch.invariant
