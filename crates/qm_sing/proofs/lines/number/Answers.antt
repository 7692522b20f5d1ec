use Rattle.std.proofs.Common.{rules, length, sym, ap, ◌∙◌, add-one, arith}
use Rattle.qm_sing.proofs.Walking.{follows, not_endless, told_here, walk_on}
use Rattle.qm_sing.proofs.lines.number.Goals as goal

pub returns-in-None : goal.returns-in-None
returns-in-None c = let i = c.loop-place.invariant in
    let told = told_here c.faces.ensures.mesh.manifold c.requires.first i.walk (c.loop-place.auto.run ∙ c.requires.run)
    (c.loop-place.auto.at ∙ c.requires.at) i.told in search (rules, told)

pub returns-then-next-first : goal.returns-then-next-first
returns-then-next-first c = let i = c.loop-place.invariant in
    let told = told_here c.faces.ensures.mesh.manifold c.requires.first i.walk (c.loop-place.auto.run ∙ c.requires.run)
    (c.loop-place.auto.at ∙ c.requires.at) i.told in search (rules, told)

pub loop-place-preserved : goal.loop-place-preserved
loop-place-preserved c =
    let m = c.faces.ensures.mesh.manifold in
    let i = c.loop-place.invariant in
    record {
      walk = walk_on (follows m) _ c.requires.first i.walk (sym c.follower.ensures.value ∙ c.in-Some.is)
          c.if-next-first.false;
      told = rw add-one (told_here m c.requires.first i.walk (c.loop-place.auto.run ∙ c.requires.run)
          (c.loop-place.auto.at ∙ c.requires.at) i.told);
    }

pub unreachable-requires : goal.unreachable-requires
unreachable-requires c = let m = c.faces.ensures.mesh.manifold in
    not_endless (follows m) _ c.requires.first c.loop-place.invariant.walk
    (omega (arith, c.loop-place-test.false, c.loop-place.auto.place-end, ap length c.faces.ensures.value))
