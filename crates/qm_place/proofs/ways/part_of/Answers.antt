use Rattle.std.proofs.Common.{◌≡◌, ◌≤◌, ◌^◌, ◌*◌, pos, ◌+ℤ◌, ◌*ℤ◌, to_z, of_z, arith}
use Rattle.{std.proofs.lemmas.Int.ints, qm_place.proofs.Casts.part_is}
use Rattle.std.specs.{Prelude.unsigned_abs, Int.int_div_euclid, Int.w64, Int.w128}
use Rattle.qm_place.proofs.ways.part_of.Goals as goal

here : (c : goal.After-div_euclid-part) → (to_z w64 (of_z w64 (to_z w128 (of_z w128 c.div_euclid-part.result)))
    ≡ int_div_euclid ((pos (2 * c.args.some) *ℤ c.args.way) +ℤ pos c.args.parts) (pos (2 * c.args.parts)))
    × (unsigned_abs c.div_euclid-part.result ≤ 2 ^ 52)
here c = part_is c.args.way c.args.some c.requires.some.0 c.requires.some.1 c.requires.short
    c.weigh-twice.ensures.value c.from.ensures c.from-2.ensures c.div_euclid-part.ensures

pub overflow_cast-result : goal.overflow_cast-result
overflow_cast-result c = omega (arith, ints, (here c).1)

pub returns-clause-value : goal.returns-clause-value
returns-clause-value c = (here c).0

pub returns-clause-short : goal.returns-clause-short
returns-clause-short c = omega (arith, ints, (here c).1)
