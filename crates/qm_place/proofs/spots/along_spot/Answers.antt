use Rattle.std.proofs.Common.{rules, ◌≡◌, ◌+◌, ◌-◌, true, arith}
use Rattle.{std.proofs.lemmas.List.get_or_read, def_written.specs.Numbers.before_arc}
use Rattle.qm_place.specs.Lengthened.{lengths_by, spacing_at}
use Rattle.qm_place.proofs.spots.along_spot.Goals.{In-Some, After-index, After-index-in-None, After-index-in-None-2}
use Rattle.qm_place.proofs.{Rims.inner_low, Rims.read_inner, Rims.spot_told, Entries.start_read}
use Rattle.qm_place.proofs.spots.along_spot.Goals as goal

-- What is read of the table of the points.
value : (c : After-index) → c.index.result.now ≡ (spacing_at c.args.placed.now).parameter_of c.args.arc true
    (c.args.place - before_arc (lengths_by c.args.placed.now) c.args.arc + 1)
value c = search (rules, read_inner)

pub index-requires : goal.index-requires
index-requires c =
    let placed = c.args.placed.now.placed in omega (
      arith,
      inner_low _ _ placed.spaced c.in-Some.is c.requires.along.low (omega arith) c.requires.along.upto,
    )

pub shared_spot-requires-clause-low : goal.shared_spot-requires-clause-low
shared_spot-requires-clause-low c =
    let placed = c.args.placed.now in
    omega (
      arith,
      value (goal.at.shared_spot-requires-clause-low c).After-index,
      placed.placed.spacing.below c.args.arc true (c.args.place - before_arc (lengths_by placed) c.args.arc + 1)
          c.requires.along.low c.requires.along.upto,
    )

pub returns-in-Some : goal.returns-in-Some
returns-in-Some c = search (rules, spot_told, value)

-- Where the points of the arc begin, and its new length.
begins : (c : After-index-in-None) → c.index-in-None.result.now ≡ before_arc (lengths_by c.args.placed.now) c.args.arc
begins c = search (rules, start_read)

parts : (c : After-index-in-None-2) → c.index-in-None-2.result.now ≡ lengths_by c.args.placed.now c.args.arc
parts c = search (rules, get_or_read)

pub overflow_sub-k : goal.overflow_sub-k
overflow_sub-k c = omega (arith, begins (goal.at.overflow_sub-k c).After-index-in-None)

pub even_spot-requires-clause-place : goal.even_spot-requires-clause-place
even_spot-requires-clause-place c = search (rules, begins, parts)

pub even_spot-requires-clause-low : goal.even_spot-requires-clause-low
even_spot-requires-clause-low c = search (rules, begins, parts)

pub returns-in-None : goal.returns-in-None
returns-in-None c = search (rules, begins, parts)
