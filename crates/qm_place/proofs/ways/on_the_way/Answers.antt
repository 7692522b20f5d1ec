use Rattle.std.proofs.Common.{rules, ◌≡◌, ◌+ℤ◌, to_z, of_z, ◌∙◌}
use Rattle.{qm_place.proofs.Casts.way_micro, std.specs.Int.w64, def_written.specs.Places.on_the_way}
use Rattle.qm_place.proofs.ways.on_the_way.Goals as goal

here : (c : goal.After-struct_told-3-1)
    → to_z w64 (of_z w64 (to_z w64 (of_z w64 c.p.inside.n) +ℤ to_z w64 (of_z w64 c.part_of-part.result)))
    ≡ on_the_way c.p.inside.n c.q.inside.n c.args.some c.args.parts
here c = search rules

pub invariant_of-result : goal.invariant_of-result
invariant_of-result c = search (rules, here, way_micro)

pub returns : goal.returns
returns c = here c ∙ (λ i. on_the_way (c.p.view_is i) (c.q.view_is i) c.args.some c.args.parts)
