use Rattle.std.proofs.lemmas.Grind.{common_steps}
use Rattle.std.proofs.Common.{◌≡◌, ◌↔◌, ℕ, refl, sym, below_more, ◌∙◌, true, arith}
use Rattle.qm_stitch.proofs.{TightEdges.end_is, TightEdges.key_tells, tight.is_doubled_on.Goals.After-is_repeat}
use Rattle.qm_stitch.specs.{Lengthened.gluing_in, Lengthened.lengths_by, Tight.IsDoubled}
use Rattle.{std.proofs.lemmas.Bool.false≢true, qm_stitch.proofs.Grids.counts, def_written.specs.Edges.on_arc}
use mathlib.Core.Logic.Iff
use Rattle.qm_stitch.proofs.tight.is_doubled_on.Goals as goal

told : (c : After-is_repeat) → (c.is_repeat.result ≡ true) ↔ IsDoubled (gluing_in c.args.keyed.now.numbered)
    (lengths_by c.args.keyed.now.numbered) (on_arc c.args.arc c.loop-k.k)
told c =
    let long = end_is c.args.keyed.now.numbered c.requires.arc c.index-k-end.ensures in
    Iff.trans (rw c.arc_key.ensures at c.is_repeat.ensures) (key_tells c.args.keyed.now _
    (omega counts, omega (arith, c.loop-k-test.true, long)))

pub returns-then-is_repeat : goal.returns-then-is_repeat
returns-then-is_repeat c =
    (λ on. (c.loop-k.k, (told ((goal.at.returns-then-is_repeat c).After-is_repeat)).0 c.if-is_repeat.true), λ has. refl)

pub loop-k-preserved : goal.loop-k-preserved
loop-k-preserved c =
    let w = (goal.at.loop-k-preserved c).After-is_repeat in
    below_more (λ (k : ℕ). ¬ IsDoubled (gluing_in c.args.keyed.now.numbered) (lengths_by c.args.keyed.now.numbered)
    (on_arc c.args.arc k)) _ c.loop-k.invariant (λ is. false≢true (sym c.if-is_repeat.false ∙ (told w).1 is))

pub returns : goal.returns
returns c = (λ on. absurd (false≢true on), λ (k, is). grind (arith, common_steps, c.loop-k.invariant k))
