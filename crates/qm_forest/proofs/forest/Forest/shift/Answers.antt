use Rattle.std.proofs.Common.{rules, ◌≡◌, ap, refl, ℕ, Some, arith}
use Rattle.{std.proofs.lemmas.Int.ints, def_forest.specs.Tables.ForestTables}
use Rattle.qm_forest.proofs.{Meeting.seen_shift, Meeting.seen_still, Meeting.tied_shift, Meeting.valid_shift}
use Rattle.qm_forest.proofs.{Shrinkings.seen_in, TiedWrites.delta_small, Increases.some_of}
use Rattle.qm_forest.proofs.forest.Forest.shift.Goals as goal

pub overflow_add-self : goal.overflow_add-self
overflow_add-self c = omega (arith, ints, delta_small c.self.invariant, c.from.ensures, c.ranges.t)

pub invariant_of-self : goal.invariant_of-self
invariant_of-self c =
    let w : (r : ℕ) × (c.self.inside.tree.root ≡ Some r) = some_of c.self.inside.tree.root (cc) in
    tied_shift c.self.invariant c.args.g.now.small.lawful (rw c.self.view_is c.requires.valid) w.0 w.1 _ _
    (omega (arith, ints, delta_small c.self.invariant, c.from.ensures, c.ranges.t)) c.requires.positive
    (rw (← c.self.view_is) at c.requires.small)

pub returns-then-is_some : goal.returns-then-is_some
returns-then-is_some c =
    let seen = seen_shift (seen_in c.self.inside) c.args.t
    (omega (arith, ints, delta_small c.self.invariant, c.from.ensures, c.ranges.t)) in
    record {
      changed = rw (← c.self.view_is) seen;
      root = ap (λ (t : ForestTables). t.root) c.self.view_is;
      valid = valid_shift {t = seen_in c.self.inside} _ c.args.t c.args.g.now.small.lawful
          (rw c.self.view_is c.requires.valid) (rw (← c.self.view_is) at c.requires.feasible) seen refl refl refl;
    }

pub returns-else-is_some-clause-changed : goal.returns-else-is_some-clause-changed
returns-else-is_some-clause-changed c = seen_still c.args.t c.requires.valid (search rules)
