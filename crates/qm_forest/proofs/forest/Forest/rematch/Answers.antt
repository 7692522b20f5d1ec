use Rattle.std.proofs.Common.{rules, ◌≡◌, length, Some, ◌∙◌, sym, ap}
use Rattle.def_forest.specs.{Darts.darts_of, Darts.far, Forests.Forest, Forests.set_at, Tables.forest_of}
use Rattle.qm_forest.{specs.Ties.mated, specs.Ties.remated, proofs.forest.Forest.rematch.Goals.After-link-up}
use Rattle.qm_forest.proofs.OnWays.{way_begins, way_goes_on, way_shorter, way_low, way_ends, old_low, up_low}
use Rattle.qm_forest.proofs.OnWays.{remated_more}
use Rattle.qm_forest.proofs.forest.Forest.rematch.Goals as goal

pub loop-old-init : goal.loop-old-init
loop-old-init c = search (rules, way_begins)

-- The blossom at hand gets its new mate, and the inner one that it was matched with is the next to get one.
changed : (c : After-link-up) → forest_of c.set_mate-in-Some.new.self ≡ remated (forest_of c.args.self.now)
    (set_at (forest_of c.loop-old.self).mate c.loop-old.at (Some c.loop-old.next))
changed c = remated_more (forest_of c.args.self.now) _ _ _ c.loop-old.invariant.seen c.set_mate-in-Some.ensures.seen

inner_is : (c : After-link-up) → c.far_blossom-inner.result
    ≡ (forest_of c.args.self.now).out (far (darts_of c.args.g.now.graph) c.in-Some.old)
inner_is c = c.far_blossom-inner.ensures.value
    ∙ ap (λ (f : Forest). f.out (far (darts_of c.args.g.now.graph) c.in-Some.old)) (changed c)

up_is : (c : After-link-up) → c.link-up.result ≡ (forest_of c.args.self.now).link c.far_blossom-inner.result
up_is c = c.link-up.ensures ∙ ap (λ (f : Forest). f.link c.far_blossom-inner.result) (changed c)

-- So is the outer blossom on the other side of that one.
changed_twice : (c : After-link-up) {f : Forest} → f ≡ mated (forest_of c.set_mate-in-Some.new.self)
    c.far_blossom-inner.result (Some c.link-up.result) → f ≡ remated (forest_of c.args.self.now)
    (set_at (set_at (forest_of c.loop-old.self).mate c.loop-old.at (Some c.loop-old.next)) c.far_blossom-inner.result
    (Some c.link-up.result))
changed_twice c = remated_more (forest_of c.args.self.now) _ _ _ (changed c)

pub set_mate-requires-in-Some : goal.set_mate-requires-in-Some
set_mate-requires-in-Some c = rw c.loop-old.invariant.same.up (way_low c.loop-old.invariant.way)

pub far_blossom-inner-requires : goal.far_blossom-inner-requires
far_blossom-inner-requires c = assumption (
  ap length (c.set_mate-in-Some.ensures.same.hand ∙ c.loop-old.invariant.same.hand) ∙ c.requires.valid.vertices,
  old_low c.loop-old.invariant.way c.in-Some.old (sym c.mate.ensures ∙ c.in-Some.is),
)

pub far_blossom-at-requires : goal.far_blossom-at-requires
far_blossom-at-requires c =
    let at = (goal.at.far_blossom-at-requires c).After-link-up in
    assumption (
      up_low c.loop-old.invariant.way c.in-Some.old (sym c.mate.ensures ∙ c.in-Some.is) (inner_is at) (up_is at),
      ap length (c.set_mate-in-Some-2.ensures.same.hand ∙ (search rules)) ∙ c.requires.valid.vertices,
    )

pub loop-old-smaller : goal.loop-old-smaller
loop-old-smaller c =
    let at = (goal.at.loop-old-smaller c).After-link-up in
    let seen = changed_twice at c.set_mate-in-Some-2.ensures.seen in
    way_shorter c.loop-old.invariant.way c.in-Some.old (sym c.mate.ensures ∙ c.in-Some.is) (inner_is at) (up_is at)
    (search rules)

pub loop-old-preserved : goal.loop-old-preserved
loop-old-preserved c =
    let at = (goal.at.loop-old-preserved c).After-link-up in
    let seen = changed_twice at c.set_mate-in-Some-2.ensures.seen in
    record {
      way = way_goes_on c.loop-old.invariant.way c.in-Some.old (sym c.mate.ensures ∙ c.in-Some.is) (inner_is at)
          (up_is at) (search rules) c.twin-next.ensures (ap (λ (f : Forest). f.mate) seen);
      seen = seen ∙ ap (remated (forest_of c.args.self.now)) (sym (ap (λ (f : Forest). f.mate) seen));
      same = search rules;
    }

pub set_mate-requires-2 : goal.set_mate-requires-2
set_mate-requires-2 c = rw c.loop-old.invariant.same.up (way_low c.loop-old.invariant.way)

pub returns-clause-done : goal.returns-clause-done
returns-clause-done c r root = way_ends c.loop-old.invariant.way (sym c.mate.ensures ∙ c.in_default.is) r root
    (search rules)
