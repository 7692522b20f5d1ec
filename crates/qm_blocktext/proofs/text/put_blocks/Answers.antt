use Rattle.std.proofs.Common.{◌≡◌, ℕ, length, ap, ◌∙◌, subst}
use Rattle.{std.proofs.lemmas.Result.on_err_weaker, std.proofs.lemmas.Result.on_ok_weaker, def_io.specs.Bytes.Bytes}
use Rattle.{qm_output.proofs.Prefixes.of_error, def_cuttext.specs.GridsText.head_lines}
use Rattle.qm_blocktext.specs.{Gridded.lines_in, declared.blocks.Blocks.Blocks}
use Rattle.qm_blocktext.proofs.text.put_blocks.Goals as goal

-- The first lines tell how many blocks there are.
head_is : (blocks : Blocks) {n : ℕ} {bytes : Bytes} → n ≡ length blocks.links.items → bytes ≡ head_lines blocks.chosen
    blocks.by n → bytes ≡ head_lines blocks.chosen blocks.by (length blocks.points.layout.patches)
head_is blocks same is = is ∙ ap (head_lines blocks.chosen blocks.by) (same ∙ blocks.linked)

pub returns-in_err-put_line-clause-part : goal.returns-in_err-put_line-clause-part
returns-in_err-put_line-clause-part g c =
    let blocks = c.args.blocks.now in
    of_error c.from_residual.result (g.met.T.Output.stops_before _ _ _ (lines_in blocks)
    (subst (g.T.Output.stops c.args.out.now c.put_line.new.out)
    (head_is blocks (c.len.ensures ∙ blocks.links.ok.0) c.head_of.ensures) c.in_err-put_line.ensures.part))

pub returns : goal.returns
returns g c =
    let laws = g.met.T.Output in
    let blocks = c.args.blocks.now in
    let took = subst (g.T.Output.takes c.args.out.now c.put_line.new.out)
    (head_is blocks (c.len.ensures ∙ blocks.links.ok.0) c.head_of.ensures) c.in_ok-put_line.ensures.whole in
    record {
      whole = on_ok_weaker c.put_each.result (laws.takes_more _ _ _ _ (lines_in blocks) took) c.put_each.ensures.whole;
      part = on_err_weaker c.put_each.result (laws.stops_later _ _ _ _ (lines_in blocks) took) c.put_each.ensures.part;
    }
