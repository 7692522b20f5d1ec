use Rattle.std.proofs.{Common.rules, Common.refl, Common.sym, Common.◌∙◌, Common.arith, lemmas.List.length-map}
use Rattle.qm_place.proofs.Pushes.{inner_short, inner_starts, lengths_short, rims_some}
use Rattle.{qm_place.proofs.Rims.fine_of, qm_place.specs.ArcTables.AreFine, def_cut.specs.Grids.rectangle}
use Rattle.{qm_place.proofs.places.placer.Goals.After-deref-3, def_layout.specs.Layouts.layout_of}
use Rattle.qm_place.proofs.places.placer.Goals as goal

-- What is known of the lengths that are kept.
here : (c : After-deref-3) → AreFine (layout_of c.args.t.now) c.deref-3.result.now
here c = fine_of c.args.t.now (c.deref-3.ensures.value ∙ c.in_ok-lengths.ensures) c.requires.layout.0 c.requires.long
    c.requires.lengths c.requires.few

pub short_lengths-requires : goal.short_lengths-requires
short_lengths-requires c =
    lengths_short (fine_of c.args.t.now refl c.requires.layout.0 c.requires.long c.requires.lengths c.requires.few)

pub inner_points-requires-clause-small : goal.inner_points-requires-clause-small
inner_points-requires-clause-small c = search (rules, fine_of)

pub spaced_by-requires : goal.spaced_by-requires
spaced_by-requires c = search (rules, fine_of)

pub invariant_of-arcs : goal.invariant_of-arcs
invariant_of-arcs c =
    let fine = here (goal.at.invariant_of-arcs c).After-deref-3 in
    record {
      fine = fine;
      begun = rw (← fine.long, c.deref-3.ensures.value, ← c.deref.ensures.value) c.in_ok-along.ensures;
      inner = rw (c.deref-3.ensures.value, ← c.deref-2.ensures.value) c.in_ok-spaced.ensures.spaced;
    }

pub inner_starts-requires-clause-some : goal.inner_starts-requires-clause-some
inner_starts-requires-clause-some c = rw (c.deref-4.ensures.value, c.in_ok-sides.ensures.count)
    (rims_some (here (goal.at.inner_starts-requires-clause-some c).After-deref-3) c.in_ok-sides.sides.rims.items
    (sym (length-map c.args.t.now.patches.items rectangle)) c.in_ok-sides.ensures.rims)

pub inner_starts-requires-clause-small : goal.inner_starts-requires-clause-small
inner_starts-requires-clause-small c = rw (c.deref-4.ensures.value, c.in_ok-sides.ensures.count)
    (inner_short (here (goal.at.inner_starts-requires-clause-small c).After-deref-3) c.in_ok-sides.sides.rims.items
    (sym (length-map c.args.t.now.patches.items rectangle)) c.in_ok-sides.ensures.rims)

pub returns-clause-places : goal.returns-clause-places
returns-clause-places c =
    let fine = here (goal.at.returns-clause-places c).After-deref-3 in
    let kept = rw c.deref-3.ensures.value at fine in
    let all = sym (length-map c.args.t.now.patches.items rectangle) in
    let inside = rw (c.deref-4.ensures.value, c.in_ok-sides.ensures.count) at c.in_ok-inside.ensures in
    record {
      laid_out = c.requires.layout;
      long = kept.long;
      lengths = kept.lengths;
      few = kept.few;
      along = rw (← kept.long, ← c.deref.ensures.value) c.in_ok-along.ensures;
      inside = rw (← c.deref-3.ensures.value)
          (inner_starts fine c.in_ok-sides.sides.rims.items all c.in_ok-sides.ensures.rims inside);
      spaced = rw (← c.deref-2.ensures.value) c.in_ok-spaced.ensures.spaced;
      rimmed = c.in_ok-sides.ensures.count ∙ all;
      rims = λ p low. rw (← c.deref-3.ensures.value) (c.in_ok-sides.ensures.rims p (omega arith));
    }
