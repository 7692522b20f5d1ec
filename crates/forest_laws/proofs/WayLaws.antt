-- Changing the matching along the way to the root: how it begins, goes on and ends, and why it ends.
use Rattle.std.proofs.Common.{rules, ◌≡◌, ◌≢◌, ℕ, Option, Some, None, refl, sym, ◌∙◌, ap, inl, inr, arith}
use Rattle.std.proofs.lemmas.Bool.{cases_eq}
use Rattle.def_forest.specs.{Darts.Darts, Darts.AreDarts, Darts.far, Forests.Forest, Forests.set_at, Steps.with_mates}
use Rattle.def_forest.specs.{Steps.IsAugmented, Valid.IsMate, Valid.IsTree, Valid.IsInner, Valid.IsValid}
use Rattle.def_forest.specs.{declared.kinds.Label.TheVariants.Inner}
use Rattle.def_forest.specs.{Ways.Reaches, Ways.IsHalf, Ways.IsAlmost}
use Rattle.forest_laws.proofs.Grows.{some_is, set_here, set_there, far_twin, tight_twin, outer_mate, inner_named}
use Rattle.forest_laws.proofs.Grows.{outer_named, same_nested, same_feasible}

-- An option with something in it is not empty.
pub some_none : (o : Option ℕ) (d : ℕ) → o ≡ Some d → o ≢ None
some_none o d is off = cc

module _ {g : Darts} (are : AreDarts g) {f : Forest} {r : ℕ} (valid : IsValid g f (Some r)) (tree : IsTree g f r)
    (start : ℕ) where
  -- It begins where a dart reaches a blossom that is not matched.
  pub begin : Reaches g f start → f.mate (f.out (far g start)) ≡ None → IsAlmost g f tree.depth start
      (set_at f.mate (f.out (far g start)) (Some (g.twin start))) (f.out (g.near start)) start
  begin reach free =
      let there = f.out (far g start) in
      let at_there = set_here f.mate there (Some (g.twin start)) in
      let elsewhere = λ (b : ℕ) (off : b ≢ there). set_there f.mate there b (Some (g.twin start)) off in
      record {
        outer = reach.outer;
        tight = reach.tight;
        here = refl;
        reached = at_there;
        above = inl reach.off;
        kept = λ b named low. elsewhere b (λ e. named (ap f.label e ∙ reach.off));
        each = λ b d ne mate. grind (arith, elsewhere b, elsewhere (f.out (far g d)), valid.matched b d);
        more = λ b mate. grind arith;
        begun = λ off. cc at_there;
      }

  module _ {mate : ℕ → Option ℕ} {a e : ℕ} (almost : IsAlmost g f tree.depth start mate a e) where
    own : mate a ≡ f.mate a
    own = almost.kept a (outer_named almost.outer) (omega arith)

    -- The blossom a matched too.
    abbrev mates : ℕ → Option ℕ
    mates = set_at mate a (Some e)

    here : mates a ≡ Some e
    here = set_here mate a (Some e)

    elsewhere : (x : ℕ) → x ≢ a → mates x ≡ mate x
    elsewhere x = set_there mate a x (Some e)

    -- It ends at a blossom that is not matched: the forest is valid then, and no tree stands.
    pub end_valid : f.mate a ≡ None → IsValid g (with_mates f (set_at mate a (Some e))) None
    end_valid free = record {
      outermost = search rules;
      nested = same_nested valid.nested;
      feasible = same_feasible valid.feasible;
      matched = λ b d is. (grind (arith, almost.each b d, almost.reached, elsewhere b, here, own, are.twin_twin e));
      tree = λ x is. absurd cc;
      no_tree = λ is b. refl;
      outside = λ b d off is. refl;
    }

    -- What has come of it.
    pub end_augmented : f.mate a ≡ None → IsAugmented g f (with_mates f (set_at mate a (Some e))) r start
    end_augmented free = grind (arith, here, tree.outer a almost.outer, almost.begun, almost.more)

    module _ (old : ℕ) (was : f.mate a ≡ Some old) where
      abbrev inn : ℕ
      inn = f.out (far g old)

      pair : IsMate g f a old
      pair = valid.matched a old was

      inn_inner : f.label inn ≡ Inner
      inn_inner = outer_mate are valid a old almost.outer was

      inn_is : IsInner g f tree.depth inn
      inn_is = tree.inner inn inn_inner

      inn_depth : tree.depth inn ≡ tree.depth a
      inn_depth = cc (inn_is.same, inn_is.mate, pair.back, pair.here, are.twin_twin old)

      abbrev up : ℕ
      up = f.link inn

      abbrev turned : ℕ → Option ℕ
      turned = set_at mates inn (Some up)

      at_inn : turned inn ≡ Some up
      at_inn = set_here mates inn (Some up)

      at_a : turned a ≡ Some e
      at_a = set_there mates inn a (Some up) (λ at. pair.other (sym at)) ∙ here

      data Place (x : ℕ) : Type 0 where
        is_inn : x ≡ inn → turned x ≡ Some up → Place x
        is_a : x ≡ a → turned x ≡ Some e → Place x
        is_other : x ≢ inn → x ≢ a → turned x ≡ mate x → Place x

      place : (x : ℕ) → Place x
      place x = search (rules, cases_eq, inl, at_inn, inr, at_a, set_there, elsewhere)

      -- What leads to a blossom that is turned is turned with it: only the old partner is matched to what it was.
      by_old : {b x : ℕ} → b ≢ inn → b ≢ a → IsHalf g f mate a e b x → turned (f.out (far g x)) ≡ Some (g.twin x)
      by_old {b} {x} ni na half = elim half.back [
        | inl back ↦ (let kept = almost.kept inn (inner_named inn_inner) (omega (arith, inn_depth)) in
            grind (arith, place (f.out (far g x)), own, was, pair, are.twin_twin x, are.twin_twin old))
        | inr (at, other) ↦ grind (arith, at_a, was, are.twin_twin x, are.twin_twin e)
      ]

      -- It goes on past a blossom that is matched.
      pub turn : IsAlmost g f tree.depth start turned (f.out (far g up)) (g.twin up)
      turn =
          let reached = ap f.out (far_twin are up) ∙ inn_is.here in
          record {
            outer = inn_is.above;
            tight = tight_twin are inn_is.tight;
            here = refl;
            reached = ap turned reached ∙ at_inn ∙ ap Some (sym (are.twin_twin up));
            above = inr (rw reached inn_is.nearer);
            kept = λ b named low. grind (arith, place b, almost.kept b named, inn_depth, inn_is.nearer);
            each = λ b d ne is. elim (place b) [
              | is_inn at now ↦ rw (some_is d up (sym is ∙ now)) (grind (arith, inn_is, are.twin_twin up))
              | is_a at now ↦ search (rules, inn_inner, inn_depth)
              | is_other ni na same ↦ (let half = almost.each b d na (sym same ∙ is) in
                  search (rules, by_old ni na half))
            ];
            more = λ b is. grind (arith, almost.more b);
            begun = λ off. grind (arith, almost.begun);
          }
