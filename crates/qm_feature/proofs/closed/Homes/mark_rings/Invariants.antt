use Rattle.std.proofs.Common.{◌≡◌, ◌&&◌, ◌||◌, eqb, ℕ}
use Rattle.std.specs.List.{list_any, range_with_len}
use Rattle.{def_mesh.specs.Darts.from_of, def_cut.specs.FullCut.is_on, qm_feature.specs.Rings.is_home}

abbrev pub invariant-loop-d : Rattle.qm_feature.proofs.closed.Homes.mark_rings.Given.invariant-loop-d
invariant-loop-d l = (v : ℕ) → is_on l.rings v
    ≡ (is_on l.initial.rings v || list_any (λ d. eqb (from_of l.self.mesh.now d) v
    && is_home l.self.mesh.now l.self.run.now l.self.whole.now l.self.least.now d) (range_with_len 0 l.d))
