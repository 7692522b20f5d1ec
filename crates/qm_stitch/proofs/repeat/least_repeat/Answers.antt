use Rattle.std.proofs.lemmas.{List.Sorted.sum_by-IsPermutation, Option.IfSome_then}
use Rattle.qm_stitch.proofs.Repeats.{least_moved, repeat_moved}
use Rattle.qm_stitch.proofs.repeat.least_repeat.Goals as goal

pub returns-clause-some : goal.returns-clause-some
returns-clause-some c = IfSome_then c.first_repeat.result c.first_repeat.ensures.some
    (λ key is. least_moved _ _ key c.sort.ensures.moved (rw c.deref.ensures.value at is))

pub returns-clause-none : goal.returns-clause-none
returns-clause-none c none key is = c.first_repeat.ensures.none none key (rw c.deref.ensures.value (repeat_moved
    c.args.keys.items c.sort.new.keys.items key (λ f. sum_by-IsPermutation f _ _ c.sort.ensures.moved) is))
