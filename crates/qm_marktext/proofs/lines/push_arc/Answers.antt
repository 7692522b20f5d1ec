use Rattle.std.proofs.Common.{◌≡◌, ◌+◌, ◌-◌, List, ℕ, ◌∷◌, [], ◌++◌, map, sym, ap, ◌∙◌, arith}
use Rattle.qm_marktext.proofs.ArcChains.{inner_more, line_is, vertex_text}
use Rattle.{std.proofs.lemmas.List.append_assoc, std.specs.Prelude.decimal, std.specs.List.flat_map}
use Rattle.{std.specs.List.range_with_len, def_text.specs.declared.letters.TheConstants.SPACE}
use Rattle.{def_marks.specs.declared.fail.TheConstants.LINE, def_io.specs.declared.TheConstants.LINE_FEED}
use Rattle.qm_marktext.proofs.lines.push_arc.Goals as goal

pub loop-k-preserved : goal.loop-k-preserved
loop-k-preserved c = record {
  text = c.in_ok-push_spaced-2.ensures ∙ (ap (λ (xs : List ℕ). xs ++ SPACE ∷ decimal (c.args.before + c.loop-k.k))
      c.loop-k.invariant.text ∙ (append_assoc (c.args.text.now.items ++ LINE ∷ vertex_text c.args.arc.now.first)
      (flat_map (λ vertex. SPACE ∷ decimal (vertex + 1)) (map (λ j. c.args.before + j)
      (range_with_len 0 (c.loop-k.k - 1)))) (SPACE ∷ decimal (c.args.before + c.loop-k.k))
      ∙ ap (λ (xs : List ℕ). (c.args.text.now.items ++ LINE ∷ vertex_text c.args.arc.now.first) ++ xs)
      (sym (inner_more c.args.before c.loop-k.k c.loop-k.invariant.some))));
  some = omega (arith, c.loop-k.invariant.some);
}

pub returns : goal.returns
returns c =
    let end : c.loop-k.k ≡ c.args.length = omega (arith, c.loop-k-test.false, c.loop-k.auto.k-end, c.requires.some) in
    c.in_ok-push-2.ensures.items ∙ (ap (λ (xs : List ℕ). xs ++ LINE_FEED ∷ [])
    (c.in_ok-push_spaced-3.ensures ∙ (ap (λ n. c.loop-k.text.items ++ SPACE ∷ decimal (n + 1)) c.from-2.ensures
    ∙ ap (λ (xs : List ℕ). xs ++ vertex_text c.args.arc.now.last)
    (c.loop-k.invariant.text ∙ ap (λ n. (c.args.text.now.items ++ LINE ∷ vertex_text c.args.arc.now.first) ++ flat_map
    (λ vertex. SPACE ∷ decimal (vertex + 1)) (map (λ j. c.args.before + j) (range_with_len 0 (n - 1)))) end)))
    ∙ line_is c.args.text.now.items c.args.arc.now.first c.args.before c.args.length c.args.arc.now.last)
