use Rattle.std.proofs.{Common.sym, Common.◌∙◌, Common.arith, lemmas.List.FromFn.map-range_with_len_more}
use Rattle.{def_mesh.specs.Darts.twin_of, feature_laws.specs.Leads.is_led_edge}

pub loop-d-preserved : Rattle.qm_feature.proofs.straightening.Lines.edges.Goals.loop-d-preserved
loop-d-preserved c = let s = c.args.self.now in
    c.in_ok-push.ensures.items ∙ (rw (c.loop-d.invariant, c.has_edge.ensures)
    (sym (map-range_with_len_more (λ d. is_led_edge s.led.now d (twin_of s.mesh.now d)) 0 c.loop-d.d c.loop-d.d
    (omega arith))))
