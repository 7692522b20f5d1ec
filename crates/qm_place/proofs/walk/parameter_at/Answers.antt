use Rattle.std.proofs.Common.{rules, ◌-◌, ◌*◌, ◌/◌, ◌<◌, arith}
use Rattle.{def_written.specs.Places.ONE, written_laws.proofs.Spacings.div_less}
use Rattle.qm_place.proofs.{Rims.rest_low, walk.parameter_at.Goals.After-from-5}
use Rattle.qm_place.proofs.walk.parameter_at.Goals as goal

-- The rest of the place is less than the share of its edge, as they are computed.
less : (c : After-from-5) → c.from.result * c.args.path.now.all - c.from-2.result * c.args.at.before
    < c.from-3.result * c.from-4.result
less c = rw (c.from.ensures, c.from-2.ensures, c.from-3.ensures, c.from-4.ensures, c.share_at.ensures.value)
    (search (rules, rest_low))

part : (c : After-from-5) → c.from-5.result * (c.from.result * c.args.path.now.all - c.from-2.result * c.args.at.before)
    / (c.from-3.result * c.from-4.result) < ONE
part c = rw c.from-5.ensures (div_less _ ONE _ (omega (arith, less c)) (omega (arith, less c)))

pub overflow_mul-result-2 : goal.overflow_mul-result-2
overflow_mul-result-2 c = search (rules, less)

pub nonzero_div-result : goal.nonzero_div-result
nonzero_div-result c = omega (arith, less (goal.at.nonzero_div-result c).After-from-5)

pub overflow_cast-result : goal.overflow_cast-result
overflow_cast-result c = omega (arith, part (goal.at.overflow_cast-result c).After-from-5)

pub overflow_add-result : goal.overflow_add-result
overflow_add-result c = omega (arith, part (goal.at.overflow_add-result c).After-from-5)
