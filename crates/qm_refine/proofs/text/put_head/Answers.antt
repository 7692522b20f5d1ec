use Rattle.std.specs.Prelude.{OnErr, OnOk}
use Rattle.std.proofs.Common.{◌≡◌, ap, ◌∙◌, subst}
use Rattle.{def_io.specs.Bytes.Bytes, def_remesh.specs.Refined.refine_head}
use Rattle.qm_refine.proofs.text.put_head.Goals as goal

pub returns-clause-whole : goal.returns-clause-whole
returns-clause-whole g c =
    let head : c.as_bytes.result.now ≡ refine_head c.args.by = c.as_bytes.ensures.value ∙ c.as_str.ensures.value
    ∙ c.numbered_line-line.ensures.text ∙ ap refine_head c.from.ensures in
    subst (λ (text : Bytes). OnOk c.put.result (g.T.Output.takes c.args.out.now c.put.new.self text)) head
    c.put.ensures.whole

pub returns-clause-part : goal.returns-clause-part
returns-clause-part g c =
    let head : c.as_bytes.result.now ≡ refine_head c.args.by = c.as_bytes.ensures.value ∙ c.as_str.ensures.value
    ∙ c.numbered_line-line.ensures.text ∙ ap refine_head c.from.ensures in
    subst (λ (text : Bytes). OnErr c.put.result (g.T.Output.stops c.args.out.now c.put.new.self text)) head
    c.put.ensures.part
