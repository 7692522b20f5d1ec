use Rattle.std.proofs.Common.{◌≡◌, ◌<◌, ◌+◌, suc, ◌++◌, length, sym, ap, ◌∙◌, arith}
use Rattle.std.proofs.lemmas.List.{append-nil, get_or_default, length-map}
use Rattle.def_layout.specs.{Arcs.path, Layouts.gluing_of, Layouts.layout_of}
use Rattle.def_marks.specs.MarkedText.{arc_text, chain_text}
use Rattle.qm_marktext.proofs.lines.marked_lines.Goals.{then-is_marked+in_ok-push_arc, else-is_marked}
use Rattle.qm_marktext.proofs.ArcChains.{arc_few, text_more, text_off, text_on}
use Rattle.{std.specs.List.flat_map, std.specs.List.range_with_len, def_remesh.specs.NewPoints.lengths_in}
use Rattle.{def_written.specs.Numbers.before_arc, qm_marktext.specs.Chains.chain_from}
use Rattle.qm_marktext.proofs.lines.marked_lines.Goals as goal

pub push_arc-requires-clause-few : goal.push_arc-requires-clause-few
push_arc-requires-clause-few c = omega (
  arith,
  arc_few (gluing_of (layout_of c.args.t.now)) (lengths_in c.args.x.now) c.requires.few c.loop-arc.arc
      (omega (arith, c.loop-arc-test.true, length-map c.args.t.now.arcs.items path)),
  c.loop-arc.invariant.before,
  c.requires.some c.loop-arc.arc (omega (arith, c.loop-arc-test.true, c.requires.long)),
)

pub overflow_add-before : goal.overflow_add-before
overflow_add-before c = omega (
  arith,
  arc_few (gluing_of (layout_of c.args.t.now)) (lengths_in c.args.x.now) c.requires.few c.loop-arc.arc
      (omega (arith, c.loop-arc-test.true, length-map c.args.t.now.arcs.items path)),
  c.loop-arc.invariant.before,
)

pub loop-arc-preserved : goal.loop-arc-preserved
loop-arc-preserved c =
    let marks = c.args.marks.now in
    let t = c.args.t.now in
    let x = c.args.x.now in
    let a = c.loop-arc.arc in
    let arc = c.index.result.now in
    let low : a < length t.arcs.items = omega (arith, c.loop-arc-test.true) in
    let before = flat_map (arc_text marks (layout_of t) (lengths_in x)) (range_with_len 0 a) in
    let next : a + 1 ≡ suc a = omega arith in
    record {
      text = elim c.if-is_marked.branch [
        | then-is_marked+in_ok-push_arc w ↦
            let same : w.index-then-is_marked.result.now ≡ arc = w.index-then-is_marked.ensures
            ∙ (get_or_default t.arcs.items a w.index-then-is_marked.result.now arc low ∙ sym c.index.ensures) in
            rw w.text-is (w.in_ok-push_arc.ensures
            ∙ ((λ i. c.loop-arc.invariant.text i ++ chain_text
            (chain_from (same i).first (c.loop-arc.invariant.before i) (lengths_in x a) (same i).last))
            ∙ sym (text_more marks (layout_of t) (lengths_in x) a ∙ ap (λ xs. before ++ xs)
            (text_on marks t x a arc low c.index.ensures c.requires.few
            (c.requires.some a (omega (arith, low, c.requires.long))) (sym c.is_marked.ensures
            ∙ w.if-is_marked.true)))))
        | else-is_marked w ↦ rw w.text-is (c.loop-arc.invariant.text ∙ sym (text_more marks (layout_of t) (lengths_in x)
            a ∙ (ap (λ xs. before ++ xs) (text_off marks t x a arc low c.index.ensures (sym c.is_marked.ensures
            ∙ w.if-is_marked.false)) ∙ append-nil before)))
      ];
      before = omega (arith, c.loop-arc.invariant.before, ap (before_arc (lengths_in x)) next);
    }
