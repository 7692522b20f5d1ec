use Rattle.std.proofs.Common.{rules, ◌≡◌, length, [], ◌∷◌, ◌++◌, ap, ◌∙◌, arith, sym}
use Rattle.qm_tmesh.proofs.nodes.list_marked.Goals.{then-on+in_ok-push-2, else-on}
use Rattle.{std.proofs.lemmas.List.append-nil, qm_tmesh.proofs.Walks.list_more}

pub loop-v-preserved : Rattle.qm_tmesh.proofs.nodes.list_marked.Goals.loop-v-preserved
loop-v-preserved c =
    let put : c.push.new.self.items ≡ c.loop-v.places.items ++ length c.loop-v.list.items ∷ [] = search rules in
    elim c.if-on.branch [
      | then-on+in_ok-push-2 w ↦ rw w.list-is (list_more c.loop-v.invariant put
          (rw w.if-on.true w.in_ok-push-2.ensures.items))
      | else-on w ↦ rw w.list-is (list_more c.loop-v.invariant put
          (rw w.if-on.false (sym (append-nil c.loop-v.list.items))))
    ]
