use Rattle.std.proofs.Common.{Ok, sym, ◌∙◌}
use Rattle.{std.proofs.lemmas.List.Sorted.searched, qm_stitch.proofs.Repeats.before_tells}

pub returns-then-place-gt0 : Rattle.qm_stitch.proofs.repeat.is_repeat.Goals.returns-then-place-gt0
returns-then-place-gt0 c =
    let keys = c.args.keyed.now.keys.now in
    let rises = c.args.keyed.now.rim.increasing in
    let at = searched keys c.args.key (Ok c.in-Ok.place) (rw c.in-Ok.is at c.binary_search.ensures.position)
    (λ i j le l. rises i j 0 le l) in
    before_tells keys rises at.0 at.1 c.if-place-gt0.true (sym c.is_at.ensures ∙ c.if-is_at.false)
