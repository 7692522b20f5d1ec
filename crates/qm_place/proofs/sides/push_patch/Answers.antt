use Rattle.std.proofs.{Common.◌-◌, Common.refl, Common.◌∙◌, Common.ap, Common.arith, lemmas.List.length-map}
use Rattle.def_layout.specs.Gluings.{south, east, north, west}
use Rattle.qm_place.proofs.{Pushes.kept_on, Pushes.pushed_kept, Rims.rim_built}
use Rattle.{def_cut.specs.Grids.rectangle, qm_place.specs.OnArcs.spacing_on}
use Rattle.qm_place.proofs.sides.push_patch.Goals as goal

pub overflow_sub-wide : goal.overflow_sub-wide
overflow_sub-wide c = omega (arith, (c.in_ok-push_side.ensures south refl).long)

pub overflow_sub-high : goal.overflow_sub-high
overflow_sub-high c =
    omega (arith, (c.in_ok-push_side.ensures south refl).long, (c.in_ok-push_side-2.ensures east refl).long)

pub overflow_sub-high-2 : goal.overflow_sub-high-2
overflow_sub-high-2 c =
    omega (arith, (c.in_ok-push_side.ensures south refl).long, (c.in_ok-push_side-2.ensures east refl).long)

pub overflow_cast-result : goal.overflow_cast-result
overflow_cast-result c =
    let many = length-map c.args.places.now.t.now.patches.items rectangle in
    let few = c.args.places.now.fine.new_few c.args.patch south (omega (arith, many)) in
    omega (arith, few, (c.in_ok-push_side.ensures south refl).long)

pub overflow_cast-result-2 : goal.overflow_cast-result-2
overflow_cast-result-2 c =
    let many = length-map c.args.places.now.t.now.patches.items rectangle in
    let few = c.args.places.now.fine.new_few c.args.patch east (omega (arith, many)) in
    omega (arith, few, (c.in_ok-push_side.ensures south refl).long, (c.in_ok-push_side-2.ensures east refl).long)

pub returns-clause-rim : goal.returns-clause-rim
returns-clause-rim c = rim_built (spacing_on c.args.places.now) c.args.places.now.fine
    (omega (arith, c.requires.low, length-map c.args.places.now.t.now.patches.items rectangle))
    (c.in_ok-push_side.ensures south refl) (c.in_ok-push_side-2.ensures east refl) (c.in_ok-push_side-3.ensures north
    refl) (c.in_ok-push_side-4.ensures west refl) (c.len-begin.ensures ∙ c.args.parameters.now.ok.0)
    (ap (λ n. n - c.len-begin.result) (c.len.ensures ∙ c.push_side.new.parameters.ok.0)) (ap (λ n. n
    - c.len-begin.result - (c.len.result - c.len-begin.result)) (c.len-2.ensures ∙ c.push_side-2.new.parameters.ok.0))

pub returns-clause-kept : goal.returns-clause-kept
returns-clause-kept c = kept_on (pushed_kept (c.in_ok-push_side.ensures south refl))
    (kept_on (pushed_kept (c.in_ok-push_side-2.ensures east refl)) (kept_on
    (pushed_kept (c.in_ok-push_side-3.ensures north refl)) (pushed_kept (c.in_ok-push_side-4.ensures west refl))))
