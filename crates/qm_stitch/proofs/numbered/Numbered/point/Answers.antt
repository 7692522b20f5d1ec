use Rattle.std.proofs.{Common.◌+◌, Common.◌-◌, Common.◌*◌, Common.refl, Common.arith, lemmas.Bool.Decides.nat_tests}
use Rattle.def_layout.specs.Gluings.{south, east, north, west}
use Rattle.qm_stitch.proofs.Grids.{counts, inside_here, long_is, IsNumberOf, on_north, on_west, starts_at, starts_end}
use Rattle.{def_written.specs.Points.point, qm_stitch.specs.Lengthened.gluing_in, qm_stitch.specs.Lengthened.lengths_by}
use Rattle.qm_stitch.proofs.numbered.Numbered.point.Goals as goal

pub border_number-requires-clause-upto : goal.border_number-requires-clause-upto
border_number-requires-clause-upto c = omega (counts, long_is c.args.self.now.numbers c.args.patch south)

pub border_number-requires-then-j-high-clause-upto : goal.border_number-requires-then-j-high-clause-upto
border_number-requires-then-j-high-clause-upto c =
    let numbers = c.args.self.now.numbers in
    let long = long_is numbers c.args.patch north (omega counts) in
    omega (counts, c.size_at-wide.ensures south refl, long, numbers.lengths.across c.args.patch)

pub returns-then-j-high : goal.returns-then-j-high
returns-then-j-high c = on_north (gluing_in c.args.self.now) (lengths_by c.args.self.now) c.args.patch c.args.i c.args.j
    (c.size_at-wide.ensures south refl) (c.size_at-high.ensures west refl) c.if-j-eq0.false c.if-j-high.true
    c.border_number-then-j-high.ensures

pub border_number-requires-then-i-eq0-clause-upto : goal.border_number-requires-then-i-eq0-clause-upto
border_number-requires-then-i-eq0-clause-upto c =
    omega (counts, c.size_at-high.ensures west refl, long_is c.args.self.now.numbers c.args.patch west)

pub returns-then-i-eq0 : goal.returns-then-i-eq0
returns-then-i-eq0 c = on_west (gluing_in c.args.self.now) (lengths_by c.args.self.now) c.args.patch c.args.i c.args.j
    (c.size_at-wide.ensures south refl) (c.size_at-high.ensures west refl) c.if-j-eq0.false c.if-j-high.false
    c.if-i-eq0.true c.border_number-then-i-eq0.ensures

pub border_number-requires-then-i-wide-clause-upto : goal.border_number-requires-then-i-wide-clause-upto
border_number-requires-then-i-wide-clause-upto c =
    let numbers = c.args.self.now.numbers in
    omega (counts, long_is numbers c.args.patch east, numbers.lengths.upright c.args.patch)

pub returns-then-i-wide : goal.returns-then-i-wide
returns-then-i-wide c = grind (arith, nat_tests, c.size_at-wide.ensures south refl, c.size_at-high.ensures west refl)

-- An inner point of the patch.
here : (c : goal.After-row_known-1) → IsNumberOf c.args.self.now.numbers
    (c.args.self.now.tables.now.nodes + c.last_of.result + c.index.result.now
    + ((c.args.j - 1) * (c.size_at-wide.result - 1) + (c.args.i - 1)))
    (point (gluing_in c.args.self.now) (lengths_by c.args.self.now) c.args.patch c.args.i c.args.j)
here c =
    let numbers = c.args.self.now.numbers in
    inside_here numbers c.args.patch c.args.i c.args.j (omega counts) c.requires.column c.requires.row
    (c.size_at-wide.ensures south refl) (c.size_at-high.ensures west refl) c.if-j-eq0.false c.if-j-high.false
    c.if-i-eq0.false c.if-i-wide.false (starts_at numbers.inside c.args.patch (omega counts) c.index.ensures)
    (starts_end numbers.along c.deref.ensures.value c.last_of.ensures)

pub overflow_add-result : goal.overflow_add-result
overflow_add-result c = omega (arith, (here c).1)

pub overflow_mul-result : goal.overflow_mul-result
overflow_mul-result c = omega (arith, (here c).1)

pub overflow_add-result-2 : goal.overflow_add-result-2
overflow_add-result-2 c = omega (arith, (here c).1)

pub overflow_add-result-3 : goal.overflow_add-result-3
overflow_add-result-3 c = omega (arith, (here c).1)

pub returns : goal.returns
returns c = (here c).0
