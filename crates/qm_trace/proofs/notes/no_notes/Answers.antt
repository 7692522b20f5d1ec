use Rattle.std.proofs.Common.{rules, ◌≡◌, None, length, replicate, sym, ap, ◌∙◌, arith}
use Rattle.{std.proofs.lemmas.List.length-replicate, motion_laws.proofs.Marks.none_on, qm_trace.proofs.Noting.are_none}

pub returns-clause-notes : Rattle.qm_trace.proofs.notes.no_notes.Goals.returns-clause-notes
returns-clause-notes c =
    let noted : c.in_ok-noted.noted.items ≡ replicate c.args.riders None = search rules in
    let long : length c.in_ok-noted.noted.items ≡ c.args.riders =
    ap length noted ∙ length-replicate c.args.riders None in
    are_none _ _ (noted ∙ ap (λ n. replicate n None) (sym long)) (search (rules, none_on)) (search rules)
    c.in_ok-queue.ensures.items (omega (arith, c.in_ok-queue.ensures.capacity, long))
