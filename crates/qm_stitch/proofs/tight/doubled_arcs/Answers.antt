use Rattle.std.proofs.Common.{rules, ◌≡◌, ◌↔◌, ◌+◌, ◌∷◌, ◌++◌, [], ℕ, true, false, get_or, below_more, ap, ◌∙◌, arith}
use Rattle.std.proofs.lemmas.{List.get_or_append_left, List.get_or_push, List.length_push}
use Rattle.qm_stitch.specs.{Lengthened.gluing_in, Lengthened.lengths_by, Tight.IsDoubledOn}

pub loop-arc-preserved : Rattle.qm_stitch.proofs.tight.doubled_arcs.Goals.loop-arc-preserved
loop-arc-preserved c = rw c.in_ok-push.ensures.items (record {
  long = length_push c.loop-arc.on.items c.is_doubled_on.result ∙ ap (λ (n : ℕ). n + 1) c.loop-arc.invariant.long;
  each = below_more (λ (a : ℕ). (get_or (c.loop-arc.on.items ++ c.is_doubled_on.result ∷ []) a false ≡ true) ↔
      IsDoubledOn (gluing_in c.args.keyed.now.numbered) (lengths_by c.args.keyed.now.numbered) a) c.loop-arc.arc
      (λ a low. rw (get_or_append_left c.loop-arc.on.items (c.is_doubled_on.result ∷ []) false a
      (omega (arith, low, c.loop-arc.invariant.long))) (c.loop-arc.invariant.each a low)) (search (rules, get_or_push));
})
