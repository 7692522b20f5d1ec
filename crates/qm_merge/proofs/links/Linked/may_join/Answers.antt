use Rattle.std.proofs.Common.{rules, ◌≡◌, sym, ◌∙◌, refl, true, true≢false, arith}
use Rattle.def_mesh.specs.Darts.{next_of, prev_of}
use Rattle.qm_merge.proofs.Linked.{contrary, far_corner, far_is, same_size, read_at}
use Rattle.{qm_merge.proofs.Rounds.next_is_corner, qm_merge.proofs.Rounds.no_twin, def_cut.specs.FullCut.is_on}
use Rattle.qm_merge.proofs.links.Linked.may_join.Goals as goal

pub returns-in_default : goal.returns-in_default
returns-in_default c = let f = c.is_full.ensures in
    λ t n glued. absurd (no_twin f.laws f.full {n = 0} c.requires refl (λ k l. absurd (omega (arith, l)))
    glued (sym c.twin.ensures.value ∙ c.in_default.is))

pub returns-then-not-is_cut : goal.returns-then-not-is_cut
returns-then-not-is_cut c =
    let f = c.is_full.ensures in
    λ t n glued. absurd (true≢false (sym (far_corner f.laws f.full glued (sym c.in-Some.ensures.value)).1
    ∙ (cc (c.next-end.ensures.value, c.is_cut.ensures, c.if-not-is_cut.true))))

pub round_from-far-requires : goal.round_from-far-requires
round_from-far-requires c =
    let f = c.is_full.ensures in
    let on = is_on c.args.self.now.cut.now.marks in
    let t = c.in-Some.twin in
    let back : prev_of (next_of t) ≡ t = f.laws.prev_next t in
    let alike : on t ≡ on c.args.s = f.full.alike c.args.s t c.requires.0 (sym c.in-Some.ensures.value) in
    let last : on (prev_of c.next-end.result) ≡ true = cc (c.next-end.ensures.value, back, alike, c.requires.1) in
    (c.next-end.ensures.dart, cc (c.is_cut.ensures, c.if-not-is_cut.false), last)

pub index-requires : goal.index-requires
index-requires c =
    let f = c.is_full.ensures in
    grind (arith, next_is_corner f.laws f.full c.round_from-far.ensures.fourth)

pub returns-then-index : goal.returns-then-index
returns-then-index c =
    let f = c.is_full.ensures in
    let round = rw c.next-end.ensures.value at c.round_from-far.ensures in
    let links = c.args.self.now.links.now in
    let fourth = next_is_corner f.laws f.full c.round_from-far.ensures.fourth in
    let far = read_at links.long.items _ c.index.ensures (omega (arith, fourth.0)) in
    let near = read_at links.long.items _ c.index-2.ensures (omega (arith, c.requires.0)) in
    λ t n glued. absurd (c.if-index.true (far ∙ (same_size f.laws f.full glued (sym c.in-Some.ensures.value) round links
    c.args.self.now.tied.linked ∙ sym near)))

pub is_around-requires-clause-other : goal.is_around-requires-clause-other
is_around-requires-clause-other c = search (rules, next_is_corner)

pub returns : goal.returns
returns c =
    let f = c.is_full.ensures in
    let round = rw c.next-end.ensures.value at c.round_from-far.ensures in
    λ t n glued. contrary _ (rw (far_is f.laws f.full glued (sym c.in-Some.ensures.value) round) at c.is_around.ensures)
