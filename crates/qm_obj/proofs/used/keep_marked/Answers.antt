use Rattle.std.proofs.Common.{rules, [], ap, arith, below_more, get_or, length, ◌++◌, ◌∙◌, ◌∷◌, ◌≡◌}
use Rattle.std.proofs.{lemmas.List.get_or_append_left, lemmas.List.get_or_push}
use Rattle.qm_obj.proofs.used.keep_marked.Goals.{else-marks-k, then-marks-k+in_ok-keep_position}
use Rattle.{qm_obj.proofs.SoupLemmas.kept_mark, qm_obj.proofs.SoupLemmas.kept_skip, qm_obj.specs.Kept.chosen}

pub loop-k-preserved : Rattle.qm_obj.proofs.used.keep_marked.Goals.loop-k-preserved
loop-k-preserved c =
    let pushed : c.push.new.self.items ≡ c.loop-k.vertices.items ++ length c.loop-k.names.items ∷ [] = grind arith in
    let before = c.loop-k.invariant.kept in
    let count = c.loop-k.invariant.count in
    record {
      kept = elim c.if-marks-k.branch [
        | then-marks-k+in_ok-keep_position w ↦ grind (arith, kept_mark c.loop-k-test.true w.if-marks-k.true before)
        | else-marks-k w ↦ rw (w.positions-is, w.names-is) (kept_skip w.if-marks-k.false before)
      ];
      count = search rules;
      vertices = rw pushed (below_more (λ j. get_or (c.loop-k.vertices.items ++ length c.loop-k.names.items ∷ []) j 0
          ≡ length (chosen c.args.marks.now j)) c.loop-k.k (λ j l. get_or_append_left c.loop-k.vertices.items
          (length c.loop-k.names.items ∷ []) 0 j (omega arith) ∙ c.loop-k.invariant.vertices j l) (get_or_push
          c.loop-k.vertices.items (length c.loop-k.names.items) 0 c.loop-k.k count ∙ ap length before.names_are));
    }
