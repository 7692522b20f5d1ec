use Rattle.qm_marks.proofs.{OneWish.takes_no_edge, OneWish.takes_wish, wishes.take_wish.Goals.After-put_wish}
use Rattle.std.proofs.{Common.cond, Common.get_or, Common.sym, Common.◌∙◌, Common.◌≡◌}
use Rattle.{def_fit.specs.WishLines.vertex_named, def_marks.specs.Chains.runs_between}
use Rattle.{def_marks.specs.Chains.is_edge}
use Rattle.qm_marks.proofs.wishes.take_wish.Goals as goal

-- The vertices of the line.
u_is : (c : After-put_wish) → c.vertex_at.result ≡ vertex_named c.args.places.now.soup.now.names c.in-Some.said.u
u_is c = rw (← c.soup.view_is, ← c.deref.ensures.value) c.vertex_at.ensures

v_is : (c : After-put_wish) → c.vertex_at-2.result ≡ vertex_named c.args.places.now.soup.now.names c.in-Some.said.v
v_is c = rw (← c.soup.view_is, ← c.deref.ensures.value) c.vertex_at-2.ensures

-- They have an edge where a wish was put.
edge_is : (c : After-put_wish) → c.put_wish.result ≡ is_edge c.args.places.now.soup.now.faces
    (vertex_named c.args.places.now.soup.now.names c.in-Some.said.u) (vertex_named c.args.places.now.soup.now.names
    c.in-Some.said.v)
edge_is c = c.put_wish.ensures.edge ∙ (λ i. is_edge (c.requires.keyed.same i) (u_is c i) (v_is c i))

pub returns-then-put_wish-clause-took : goal.returns-then-put_wish-clause-took
returns-then-put_wish-clause-took c =
    let at = (goal.at.returns-then-put_wish-clause-took c).After-put_wish in
    let same = c.requires.keyed.same in
    takes_wish _ _ _ _ c.is_far.ensures.few _ c.in-Some.ensures (sym c.is_far.ensures.far ∙ c.if-is_far.false) _ _
    (sym (edge_is at) ∙ c.if-put_wish.true) (λ d low. c.put_wish.ensures.wishes c.if-put_wish.true d (rw same low)
    ∙ (λ i. cond (runs_between (same i) (u_is at i) (v_is at i) d) c.in-Some.said.wish (get_or c.args.wishes.now d 0)))

pub returns-else-put_wish-clause-refused : goal.returns-else-put_wish-clause-refused
returns-else-put_wish-clause-refused c = takes_no_edge c.args.places.now.soup.now _ _ _ c.is_far.ensures.few _
    c.in-Some.ensures (sym c.is_far.ensures.far ∙ c.if-is_far.false)
    (sym (edge_is (goal.at.returns-else-put_wish-clause-refused c).After-put_wish) ∙ c.if-put_wish.false)
