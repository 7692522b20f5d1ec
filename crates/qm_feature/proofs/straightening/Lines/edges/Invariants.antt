use Rattle.std.proofs.Common.{◌≡◌, map}
use Rattle.{std.specs.List.range_with_len, def_mesh.specs.Darts.twin_of, feature_laws.specs.Leads.is_led_edge}

abbrev pub invariant-loop-d : Rattle.qm_feature.proofs.straightening.Lines.edges.Given.invariant-loop-d
invariant-loop-d l = l.cut.items
    ≡ map (λ d. is_led_edge l.self.led.now d (twin_of l.self.mesh.now d)) (range_with_len 0 l.d)
