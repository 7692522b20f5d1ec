use Rattle.std.proofs.{Common.◌∙◌, Common.arith, Common.rules, lemmas.Int.to_z-of_z}
use mir.Syntax.{w128}
use Rattle.qm_stitch.proofs.{RiseLists.uses_tell, Lines.none_along, Lines.side_both, Grids.counts, Grids.uses_low}
use Rattle.qm_stitch.proofs.DoubledPairs.{told_next, told_none, told_so}
use Rattle.qm_stitch.specs.{declared.remedy.Run.TheVariants.Side as side_run}
use Rattle.{def_layout.specs.Layouts.layout_of, written_laws.proofs.Sides.size_some}
use Rattle.qm_stitch.proofs.remedies.push_side.Goals as goal

pub is_some_short-requires : goal.is_some_short-requires
is_some_short-requires c = search (rules, uses_low)

pub price_along-price-requires : goal.price_along-price-requires
price_along-price-requires c = search (rules, uses_low)

pub returns-then-not-is_some_short : goal.returns-then-not-is_some_short
returns-then-not-is_some_short c r =
    let numbered = c.args.priced.now.keyed.numbered in
    told_none (none_along c.args.priced.now (side_run c.args.patch c.args.side) (search rules) r)

pub loop-number-init : goal.loop-number-init
loop-number-init c =
    let numbered = c.args.priced.now.keyed.numbered in
    record {
      some = omega arith;
      upto = size_some _ _ numbered.numbers.whole.paved numbered.numbers.lengths _ _ (omega counts);
      adds = λ r. told_none (λ is. omega arith);
    }

pub push_line-requires : goal.push_line-requires
push_line-requires c = record { line = omega counts }

pub loop-number-preserved : goal.loop-number-preserved
loop-number-preserved c = record {
  some = omega arith;
  upto = omega arith;
  adds = λ r. told_next c.loop-number.number (c.loop-number.invariant.adds r)
      (told_so (c.in_ok-push_line.ensures r) (λ by. (c.loop-number.invariant.some, by), λ by. by.1));
}

pub returns : goal.returns
returns c r =
    let numbered = c.args.priced.now.keyed.numbered in
    let told = uses_tell (layout_of numbered.t.now) _ _ _ c.side_of-uses.ensures c.is_some_short.ensures in
    let cost = rw c.side_of-uses.ensures at c.price_along-price.ensures in
    told_so (c.loop-number.invariant.adds r) (side_both c.args.priced.now c.args.patch c.args.side c.loop-number.number
    _ c.requires.side (omega arith) (to_z-of_z w128 _ (search rules) ∙ cost) (told.0 c.if-not-is_some_short.false) r)
