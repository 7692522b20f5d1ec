use Rattle.std.proofs.Common.{rules, ◌≡◌, false, get_or, ◌∙◌, arith}
use Rattle.def_layout.specs.{Layouts.way_number, Layouts.layout_of, Arcs.long_at}
use Rattle.qm_place.proofs.{Rims.back_by, Rims.old_read, Rims.read, Rims.side_more, Rims.IsRead}
use Rattle.{def_layout.specs.Gluings.Way, qm_offsets.proofs.Whole.way_for, qm_place.specs.OnArcs.spacing_on}
use Rattle.qm_place.proofs.sides.push_side.Goals.{After-len-old}
use Rattle.qm_place.proofs.sides.push_side.Goals as goal

-- The arc at the place of the side, as it is read, and its old length.
here : (c : After-len-old) (s : Way) → way_number s ≡ c.args.side
    → IsRead c.args.places.now.t.now c.args.places.now.lengths.now c.args.patch c.loop-used.used-index s
    (get_or c.side_of-used-items.result.now c.loop-used.used-index (record { arc = 0; forward = false }))
here c s way = search (rules, read)

old_is : (c : After-len-old) (s : Way) → way_number s ≡ c.args.side
    → c.len-old.result ≡ long_at (layout_of c.args.places.now.t.now).arcs
    (get_or c.side_of-used-items.result.now c.loop-used.used-index (record { arc = 0; forward = false })).arc
old_is c s way = c.len-old.ensures ∙ c.index.result.now.darts.ok.0
    ∙ old_read c.args.places.now.t.now (here c s way).arc_low c.index.ensures

pub index-requires : goal.index-requires
index-requires c =
    let (s, way) = way_for c.args.side c.requires.side in
    let at = read c.args.places.now.t.now c.args.places.now.fine c.requires.low c.side_of-used-items.ensures
    c.loop-used-test.true way in
    omega (arith, at.arc_low, c.args.places.now.t.now.arcs.ok.0)

pub start_of-start-requires : goal.start_of-start-requires
start_of-start-requires c =
    let (s, way) = way_for c.args.side c.requires.side in
    let at = (goal.at.start_of-start-requires c).After-len-old in
    omega (arith, here at s way, old_is at s way, c.loop-used.invariant.before s way, c.old_size-whole.ensures s way)

pub push_arc-requires-clause-few : goal.push_arc-requires-clause-few
push_arc-requires-clause-few c =
    let (s, way) = way_for c.args.side c.requires.side in
    let at = (goal.at.push_arc-requires-clause-few c).After-len-old in
    grind (
      arith,
      c.start_of-start.ensures,
      here at s way,
      old_is at s way,
      c.loop-used.invariant.before s way,
      c.old_size-whole.ensures s way,
    )

pub push_arc-requires-clause-arc : goal.push_arc-requires-clause-arc
push_arc-requires-clause-arc c =
    let (s, way) = way_for c.args.side c.requires.side in
    omega (arith, here (goal.at.push_arc-requires-clause-arc c).After-len-old s way)

pub overflow_add-before : goal.overflow_add-before
overflow_add-before c =
    let (s, way) = way_for c.args.side c.requires.side in
    let at = (goal.at.overflow_add-before c).After-len-old in
    omega (arith, here at s way, old_is at s way, c.loop-used.invariant.before s way)

pub loop-used-preserved : goal.loop-used-preserved
loop-used-preserved c =
    let at = (goal.at.loop-used-preserved c).After-len-old in
    record {
      pushed = λ s way. side_more (spacing_on c.args.places.now) (here at s way) (back_by s way) (rw (
        c.start_of-start.ensures,
        back_by s way,
        c.old_size-whole.ensures s way,
        c.loop-used.invariant.before s way,
        old_is at s way,
        (here at s way).same,
      ))
          (c.loop-used.invariant.pushed s way) c.in_ok-push_arc.ensures;
      before = λ s way. omega (arith, c.loop-used.invariant.before s way, here at s way, old_is at s way);
    }
