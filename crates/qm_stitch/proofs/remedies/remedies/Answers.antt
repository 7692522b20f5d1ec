use Rattle.std.proofs.Common.{◌≡◌, rules, [], length, ap, sym, arith}
use Rattle.qm_stitch.proofs.{DoubledPairs.told_all, DoubledPairs.told_more, Grids.arcs_long, Grids.patches_long}
use Rattle.qm_stitch.proofs.Lines.{all_both}

pub returns : Rattle.qm_stitch.proofs.remedies.remedies.Goals.returns
returns c r =
    let none : c.new-found.result.items ≡ [] = search rules in
    told_all (λ has. omega (arith, has.1, ap length none)) (told_more (c.in_ok-push_arcs.ensures r)
    (c.in_ok-push_patches.ensures r) (all_both c.args.priced.now _ _ (sym (arcs_long _)) (sym (patches_long _)) r))
