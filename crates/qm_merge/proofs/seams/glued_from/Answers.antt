use Rattle.std.proofs.Common.{rules, ◌≡◌, Some, sym, ◌∙◌, arith, true, true≢false}
use Rattle.qm_grid.proofs.Found.{row_at, row_inside, row_never}
use Rattle.qm_merge.proofs.Rounds.{glued_more, name_more, glued_done, name_done, no_twin, leads_there}
use Rattle.{std.proofs.lemmas.Bool.false≢true, def_mesh.specs.Darts.next_of, def_mesh.specs.Darts.twin_of}
use Rattle.{def_mesh.specs.HalfEdges.half_edges, def_cut.specs.FullCut.is_on, qm_merge.proofs.Rounds.far_corner}
use Rattle.qm_merge.proofs.seams.glued_from.Goals as goal

pub returns-in_default-clause-none : goal.returns-in_default-clause-none
returns-in_default-clause-none c =
    let i = c.loop-n.invariant in
    let f = c.is_full.ensures in
    λ t m g. no_twin f.laws f.full c.requires.corner i.at i.inside g (sym c.twin.ensures.value ∙ c.in_default.is)

pub returns-then-not-leads_on-clause-none : goal.returns-then-not-leads_on-clause-none
returns-then-not-leads_on-clause-none c =
    let i = c.loop-n.invariant in
    let f = c.is_full.ensures in
    λ t m g. false≢true (sym c.if-not-leads_on.true ∙ c.leads_on.ensures.1 (leads_there f.laws f.full c.requires.corner
    i.at i.inside g (sym c.in-Some.ensures.value) i.glued))

pub returns-then-not-is_cut-clause-none : goal.returns-then-not-is_cut-clause-none
returns-then-not-is_cut-clause-none c =
    let i = c.loop-n.invariant in
    let f = c.is_full.ensures in
    let on : is_on c.args.cut.now.marks (next_of c.loop-n.d) ≡ true = cc (c.if-is_cut.true) in
    λ t m g. true≢false (sym (far_corner f.laws f.full c.requires.corner i.at i.inside g (sym c.in-Some.ensures.value)
    on) ∙ (cc (c.if-not-is_cut.true)))

pub returns-then-is_cut-clause-found : goal.returns-then-is_cut-clause-found
returns-then-is_cut-clause-found c =
    let i = c.loop-n.invariant in
    let f = c.is_full.ensures in
    let tw : twin_of c.args.cut.now.faces c.loop-n.d ≡ Some c.in-Some.twin = sym c.in-Some.ensures.value in
    let leads = c.leads_on.ensures.0 c.if-not-leads_on.false in
    record {
      glued = grind (arith, glued_done f.laws f.full c.requires.corner i.at i.inside tw leads i.glued);
      named = grind (arith, name_done f.laws f.full c.requires.corner i.at i.inside tw leads i.named);
    }

pub loop-n-preserved : goal.loop-n-preserved
loop-n-preserved c =
    let i = c.loop-n.invariant in
    let f = c.is_full.ensures in
    let tw : twin_of c.args.cut.now.faces c.loop-n.d ≡ Some c.in-Some.twin = sym c.in-Some.ensures.value in
    let leads = c.leads_on.ensures.0 c.if-not-leads_on.false in
    record {
      at = search (rules, row_at);
      low = c.east-d.ensures.dart;
      inside = row_inside _ f.laws _ f.full _ _ _ i.at i.inside (cc (c.if-is_cut.false));
      glued = glued_more _ i.at tw leads i.glued;
      named = rw (c.min-name.ensures, c.min.ensures) (name_more (is_on c.args.cut.now.marks) i.at tw leads i.named);
    }

pub unreachable-requires : goal.unreachable-requires
unreachable-requires c = let f = c.is_full.ensures in
    row_never _ f.laws _ f.full c.args.s c.loop-n.n c.requires.corner.0 c.requires.corner.2 c.loop-n.invariant.inside
    (omega (arith, f.long, c.loop-n-test.false))
