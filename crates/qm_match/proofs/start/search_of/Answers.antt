use Rattle.std.proofs.lemmas.Grind.{common_steps}
use Rattle.std.proofs.Common.{rules, ◌≡◌, ◌+◌, ◌-◌, ◌/◌, ◌^◌, ◌∙◌, length, refl, sym, ap, arith}
use Rattle.std.proofs.{lemmas.Grind.get_or_default_zero, lemmas.List.length-replicate}
use Rattle.qm_forest.proofs.Fresh.{same_everywhere}

pub returns-clause-ready : Rattle.qm_match.proofs.start.search_of.Goals.returns-clause-ready
returns-clause-ready c =
    let size : length c.in_ok-new.field-0 ≡ c.edge_count.result + (c.n-n.result / 2 + 1) = ap length c.in_ok-new.ensures
    ∙ length-replicate (c.edge_count.result + (c.n-n.result / 2 + 1)) (2 ^ 64 - 1) in
    let halves : length c.args.forest.hand / 2 ≡ c.n-n.result / 2 = search rules in
    record {
      vertices = c.requires.fans.vertices ∙ sym c.requires.valid.vertices;
      darts = c.requires.fans.darts ∙ sym c.requires.valid.darts;
      firsts = λ v. rw c.requires.valid.darts (c.requires.fans.firsts v);
      nexts = c.requires.fans.nexts;
      all = λ d l. (let low = rw c.requires.valid.darts at l in
          rw (c.requires.valid.ends d low) (c.requires.fans.all d low));
      leaves = omega (arith, size, c.edge_count.ensures.value, halves, c.requires.valid.darts);
      marks = search rules;
      members = omega (arith, c.in_ok-with_capacity.ensures.capacity, c.requires.valid.vertices, c.n-n.ensures.value);
      parts = omega (arith, c.in_ok-with_capacity-2.ensures.capacity, c.requires.valid.vertices, c.n-n.ensures.value);
      few = λ k l. grind (arith, common_steps);
      risen = refl;
      above = c.greatest_weight.ensures.above;
      attained = c.greatest_weight.ensures.attained;
    }
