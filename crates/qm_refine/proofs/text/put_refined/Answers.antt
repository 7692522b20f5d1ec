use Rattle.std.proofs.{Common.◌≡◌, Common.ℕ, Common.None, Common.subst, lemmas.Result.on_err_weaker}
use Rattle.std.proofs.{lemmas.Result.on_ok_weaker}
use Rattle.def_remesh.specs.{CutSoups.Regrid, NewPoints.lengths_in, NewPoints.multiple_of, NewSoup.new_soup}
use Rattle.def_remesh.specs.{NewSoup.spaced_soup, Refined.refine_head}
use Rattle.{std.specs.Prelude.OnErr, std.specs.Prelude.OnOk, def_io.specs.Bytes.Bytes, def_layout.specs.Arcs.long_at}
use Rattle.{def_text.specs.Canonical.canonical_text, qm_output.proofs.Prefixes.of_error}
use Rattle.qm_refine.proofs.text.put_refined.Goals as goal

-- The text of the new mesh is that of the refined one.
evenly : (new : Regrid) (by : ℕ) → lengths_in new.lengths ≡ multiple_of by (long_at new.layout.arcs) → new.shares ≡ None
    → canonical_text (spaced_soup new.soup new.layout new.shares (lengths_in new.lengths))
    ≡ canonical_text (new_soup new.soup new.layout (multiple_of by (long_at new.layout.arcs)))
evenly new by lengths even i = canonical_text (spaced_soup new.soup new.layout (even i) (lengths i))

pub returns-in_err-put_head-clause-part : goal.returns-in_err-put_head-clause-part
returns-in_err-put_head-clause-part g c =
    let laws = g.met.T.Output in
    of_error c.from_residual.result (laws.stops_before _ _ (refine_head c.args.by) _ c.in_err-put_head.ensures.part)

pub returns-clause-whole : goal.returns-clause-whole
returns-clause-whole g c =
    let laws = g.met.T.Output in
    on_ok_weaker c.put_new_mesh.result (laws.takes_more _ _ _ (refine_head c.args.by) _ c.in_ok-put_head.ensures.whole)
    (subst (λ (text : Bytes). OnOk c.put_new_mesh.result (g.T.Output.takes c.put_head.new.out c.put_new_mesh.new.out
    text)) (evenly c.args.new.now c.args.by c.requires.lengths c.requires.even) c.put_new_mesh.ensures.whole)

pub returns-clause-part : goal.returns-clause-part
returns-clause-part g c =
    let laws = g.met.T.Output in
    on_err_weaker c.put_new_mesh.result (laws.stops_later _ _ _ (refine_head c.args.by) _
    c.in_ok-put_head.ensures.whole)
    (subst (λ (text : Bytes). OnErr c.put_new_mesh.result (g.T.Output.stops c.put_head.new.out c.put_new_mesh.new.out
    text)) (evenly c.args.new.now c.args.by c.requires.lengths c.requires.even) c.put_new_mesh.ensures.part)
