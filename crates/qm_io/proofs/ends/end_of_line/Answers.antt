use Rattle.std.proofs.Common.{rules, List, arith, false, length, subst, ℕ, ◌+◌, ◌-◌, ◌==◌, ◌≡◌}
use Rattle.{std.proofs.Math.Seq.take-length, std.specs.List.list_any, qm_io.proofs.Cuts.none_in_front}
use Rattle.qm_io.proofs.ends.end_of_line.Goals as goal

pub returns-in-Some-clause-first : goal.returns-in-Some-clause-first
returns-in-Some-clause-first c =
    let same : c.in-Some.at + 1 - 1 ≡ c.in-Some.at = omega arith in
    rw same (none_in_front c.args.bytes.now c.in-Some.at (λ j m. c.in-Some.ensures.0.before j (omega arith) m))

pub returns-in-None-clause-none : goal.returns-in-None-clause-none
returns-in-None-clause-none c = subst (λ (bs : List ℕ). list_any (λ b. b == 10) bs ≡ false)
    (take-length c.args.bytes.now) (search (rules, none_in_front))
