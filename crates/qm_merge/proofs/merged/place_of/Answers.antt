use Rattle.{std.proofs.Common.arith, qm_merge.proofs.Linked.read_at, qm_merge.proofs.Names.seam_name}
use Rattle.qm_merge.proofs.merged.place_of.Goals as goal

pub returns-in_default-clause-none : goal.returns-in_default-clause-none
returns-in_default-clause-none c =
    let start = read_at c.args.linked.now.links.now.starts.items c.args.name c.index-start.ensures
    (omega (arith, c.requires, c.args.linked.now.tied.starts.0)) in
    rw (← start) (λ t n arc named. c.in_default.ensures.none t n arc)

pub returns-then-seam-name-clause-none : goal.returns-then-seam-name-clause-none
returns-then-seam-name-clause-none c =
    let f = c.is_full.ensures in
    let start = read_at c.args.linked.now.links.now.starts.items c.args.name c.index-start.ensures
    (omega (arith, c.requires, c.args.linked.now.tied.starts.0)) in
    rw (← start) (λ t n arc named. c.if-seam-name.true (seam_name f.laws f.full c.in-Some.ensures.found arc named))
