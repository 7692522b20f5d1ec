use Rattle.std.proofs.{Common.ℕ, Common.◌<◌, Common.length, Common.ap, Common.arith, Common.◌∙◌, lemmas.Int.ints}
use Rattle.{search_laws.specs.Keys.true_key, search_laws.specs.Searches.steps_left, def_forest.specs.Forests.Forest}
use Rattle.qm_match.proofs.Chains.{few, may_shift, shift_keys, shifted_on, shifted_to, shifted_way}
use Rattle.qm_match.proofs.search.Search.rise_to.Goals as goal

pub overflow_cast-t : goal.overflow_cast-t
overflow_cast-t c = omega (arith, ints, few c.requires)

pub shift-requires : goal.shift-requires
shift-requires c = may_shift c.requires

pub returns : goal.returns
returns c =
    let is = shifted_to c.requires c.shift.new.self c.shift.ensures.changed in
    assumption (
      shifted_way c.requires c.shift.new.self is c.shift.ensures.root c.shift.ensures.valid,
      shifted_on c.requires c.shift.new.self is c.shift.ensures.root,
      ap (steps_left c.args.g.now.graph.n) c.shift.ensures.changed,
      λ (k : ℕ) (l : k < length c.args.self.now.tour).
          ap (λ (f : Forest). true_key c.args.g.now.graph f c.args.key k) is ∙ shift_keys c.requires k l,
    )
