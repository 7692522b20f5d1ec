use Rattle.std.proofs.Common.{refl, arith}
use Rattle.search_laws.proofs.{Kept.true_key_low, Stepped.matched_more}
use Rattle.{def_forest.specs.Tables.forest_of, qm_match.specs.States.HasEnded, qm_match.proofs.Stepped.idle_after}
use Rattle.qm_match.proofs.search.Search.augment.Goals as goal

pub returns : goal.returns
returns c =
    let s = c.args.self.now in
    let g = c.args.g.now.graph in
    let w = c.augment.ensures.changed in
    let way = c.requires.way in
    let ended : HasEnded g.n s.forest c.augment.new.self = λ v seeking. matched_more g w.2 (rw w.1 at seeking) in
    assumption (idle_after way.made (λ k l. grind (arith, way.low k l, true_key_low g (forest_of s.forest) s.risen k))
    way.range c.augment.ensures.valid c.augment.ensures.root w.2 refl (λ b. refl))
