use Rattle.std.proofs.Common.{◌≡◌, ◌∙◌, ◌++◌, ◌+◌, ◌*◌, ◌≤◌, ap, ℤ, pos, List, drop, get_or, length, take, unsigned_abs}
use Rattle.std.proofs.{Common.subst, Common.sym, Common.arith, lemmas.Int.ints, Math.Seq.take-append_seam}
use Rattle.qm_initial.specs.declared.initial.TheConstants.{MAX_WISH}

pub returns-clause-small : Rattle.qm_initial.proofs.initial.initial_dual.Goals.returns-clause-small
returns-clause-small c =
    let len : c.in_ok-y.y.len ≡ length c.lower_all.new.y = omega (
      arith,
      c.in_ok-y.y.ok.0,
      c.lower_all.ensures.long,
      c.deref_mut.ensures.len,
    ) in
    let whole : take c.in_ok-y.y.len (c.lower_all.new.y ++ drop (length c.lower_all.new.y) c.in_ok-y.y.items)
    ≡ c.lower_all.new.y = ap (λ n. take n (c.lower_all.new.y ++ drop (length c.lower_all.new.y) c.in_ok-y.y.items))
    len ∙ take-append_seam c.lower_all.new.y (drop (length c.lower_all.new.y) c.in_ok-y.y.items) in
    λ most each v. subst (λ (ys : List ℤ). unsigned_abs (get_or ys v (pos 0)) ≤ 2 * most + MAX_WISH) (sym whole)
    (omega (arith, ints, c.lower_all.ensures.near most each v, (c.lower_all.ensures.within v).0))
