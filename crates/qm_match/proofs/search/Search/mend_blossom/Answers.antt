use Rattle.std.proofs.Common.{sym, inl, inr}
use Rattle.{std.proofs.lemmas.Bool.eq-eqb, def_matching.specs.Matching.edge_at}

pub returns-clause-right : Rattle.qm_match.proofs.search.Search.mend_blossom.Goals.returns-clause-right
returns-clause-right c = λ e l at.
    let lawful = c.requires.made.small.lawful in
    let edge = edge_at c.args.g.now.graph e in
    elim at [
      | inl on ↦ let p = c.members.ensures.all edge.u (rw c.requires.valid.vertices (lawful.left e l)) on in
          c.mend_members.ensures.right p.0 p.1 e l (inl (eq-eqb _ _ (sym p.2)))
      | inr on ↦ let p = c.members.ensures.all edge.v (rw c.requires.valid.vertices (lawful.right e l)) on in
          c.mend_members.ensures.right p.0 p.1 e l (inr (eq-eqb _ _ (sym p.2)))
    ]
