use Rattle.std.proofs.Common.{◌≡◌, ◌+◌, ◌<◌, ℕ, List, take, get_or, length, false, ◌∙◌, ap, arith, pos, ◌+ℤ◌, rules}
use Rattle.std.proofs.{Common.w64, Common.to_z, Common.of_z, lemmas.Int.ints, lemmas.Int.to_z-of_z}
use Rattle.qm_stitch.specs.{Lengthened.lengths_by, Remedies.price_along, Remedies.short_price}
use Rattle.{std.proofs.lemmas.List.take_more, def_layout.specs.Lengths.Lengths}
use Rattle.{def_layout.specs.declared.tmesh.SideArc.SideArc, std.specs.Prelude.ℤ, sum_laws.proofs.Sums.total_append}

more : (x : Lengths) (prices : List ℤ) (uses : List SideArc) (i : ℕ) (d : SideArc) → i < length uses
    → price_along x prices (take (i + 1) uses)
    ≡ price_along x prices (take i uses) +ℤ (short_price x prices (get_or uses i d).arc +ℤ pos 0)
more x prices uses i d low = ap (price_along x prices) (take_more uses i d low) ∙ total_append
    (λ (u : SideArc). short_price x prices u.arc) _ _

pub loop-used-preserved : Rattle.qm_stitch.proofs.remedies.price_along.Goals.loop-used-preserved
loop-used-preserved c =
    let x = lengths_by c.args.priced.now.keyed.numbered in
    let e = more x c.args.priced.now.prices.now _ _ (record { arc = 0; forward = false }) c.loop-used-test.true in
    let back : to_z w64 (of_z w64 c.short_price.result) ≡ c.short_price.result = to_z-of_z w64 _ (search rules) in
    record { sum = omega (arith, ints, c.from-price.ensures); low = omega (arith, ints); high = omega (arith, ints) }
