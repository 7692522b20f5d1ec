use Rattle.std.proofs.Common.{rules, ◌≡◌, ◌≤◌, pos, length, ◌∙◌, ap, arith}
use Rattle.std.proofs.{lemmas.Int.ints, lemmas.List.get_or_default}
use Rattle.qm_place.proofs.Casts.{blend_micro, sum_room, mean_is, cast_micro}
use Rattle.{std.specs.Prelude.unsigned_abs, def_written.specs.Places.blend}
use Rattle.qm_place.proofs.ways.blend.Goals as goal

pub overflow_add-south-2 : goal.overflow_add-south-2
overflow_add-south-2 c = omega (
  arith,
  ints,
  c.weigh.ensures.short,
  c.weigh-2.ensures.short,
  c.weigh-3.ensures.short,
  c.weigh-4.ensures.short,
)

pub overflow_add-south-3 : goal.overflow_add-south-3
overflow_add-south-3 c = search (rules, sum_room)

is : (c : goal.After-div_euclid-mean) → c.div_euclid-mean.result ≡ blend c.args.s c.args.t c.p00.inside.n c.p10.inside.n
    c.p01.inside.n c.p11.inside.n
is c = search (rules, mean_is)

small : (c : goal.After-div_euclid-mean) → unsigned_abs c.div_euclid-mean.result ≤ 999999999999999
small c = search (rules, is, blend_micro)

pub overflow_cast-result : goal.overflow_cast-result
overflow_cast-result c = omega (arith, ints, small c)

pub invariant_of-result : goal.invariant_of-result
invariant_of-result c = omega (arith, ap unsigned_abs (cast_micro c.div_euclid-mean.result (small c)), small c)

pub returns : goal.returns
returns c =
    let four : 4 ≤ length c.args.corners = search rules in
    cast_micro c.div_euclid-mean.result (small c) ∙ is c ∙ (λ i. blend c.args.s c.args.t
    ((c.p00.view_is ∙ get_or_default c.args.corners 0 c.index-corners-0.result (pos 0) (omega (arith, four))) i)
    ((c.p10.view_is ∙ get_or_default c.args.corners 1 c.index-corners-1.result (pos 0) (omega (arith, four))) i)
    ((c.p01.view_is ∙ get_or_default c.args.corners 3 c.index-corners-3.result (pos 0) (omega (arith, four))) i)
    ((c.p11.view_is ∙ get_or_default c.args.corners 2 c.index-corners-2.result (pos 0) (omega (arith, four))) i))
