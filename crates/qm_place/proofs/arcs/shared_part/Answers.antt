use Rattle.std.proofs.Common.{rules, ◌≡◌, ◌+◌, ◌-◌, ◌<◌, true, length, ap, arith}
use Rattle.{std.proofs.lemmas.List.length-map, qm_place.proofs.Entries.start_read, def_layout.specs.Layouts.layout_of}
use Rattle.{def_remesh.specs.NewPoints.lengths_in, written_laws.proofs.Spacings.place_low, def_layout.specs.Arcs.path}
use Rattle.{def_remesh.specs.Placings.shares_in, qm_place.proofs.Rims.read_inner, def_written.specs.Numbers.before_arc}
use Rattle.qm_place.proofs.{Rims.inner_low, arcs.shared_part.Goals.Else-k-places, arcs.shared_part.Goals.After-index-2}
use Rattle.qm_place.proofs.arcs.shared_part.Goals as goal

-- The arc is one of the layout, and the place is inside.
there : (c : Else-k-places) → (c.args.arc < length (layout_of c.args.places.now.t.now).arcs) × (0 < c.args.k)
    × (c.args.k < lengths_in c.args.places.now.lengths.now c.args.arc)
there c = omega (arith, length-map c.args.places.now.t.now.arcs.items path)

-- The place in the table.
index : (c : After-index-2) → c.index-2.result.now + c.args.k - 1
    ≡ before_arc (lengths_in c.args.places.now.lengths.now) c.args.arc + c.args.k - 1
index c =
    let many = length-map c.args.places.now.t.now.arcs.items path in
    ap (λ n. n + c.args.k - 1) (start_read c.args.places.now.begun (omega (arith, c.requires.arc, many))
    c.index-2.ensures)

pub overflow_add-index : goal.overflow_add-index
overflow_add-index c =
    let at = there (goal.at.overflow_add-index c).Else-k-places in
    let x = lengths_in c.args.places.now.lengths.now in
    let layout = layout_of c.args.places.now.t.now in
    let few = place_low (λ b. x b - 1) (length layout.arcs) c.args.arc (c.args.k - 1) at.0
    (omega (arith, at.1, at.2)) in
    omega (arith, index (goal.at.overflow_add-index c).After-index-2, at.1, few)

pub index-requires-3 : goal.index-requires-3
index-requires-3 c =
    let at = there (goal.at.index-requires-3 c).Else-k-places in
    let low = inner_low _ _ c.args.places.now.inner c.requires.spaced at.0 at.1 at.2 in
    omega (arith, index (goal.at.index-requires-3 c).After-index-2, low)

pub returns-clause-value : goal.returns-clause-value
returns-clause-value c = search (rules, there, read_inner, index)

pub returns-clause-low : goal.returns-clause-low
returns-clause-low c =
    let at = there (goal.at.returns-clause-low c).Else-k-places in
    let value = read_inner _ _ c.args.places.now.inner c.requires.spaced at.0 at.1 at.2
    (index (goal.at.returns-clause-low c).After-index-2) c.index-3.ensures in
    let spacing = c.args.places.now.fine.spacing (shares_in c.args.places.now.spaced.now) in
    omega (arith, value, spacing.below c.args.arc true c.args.k at.0 at.2)
