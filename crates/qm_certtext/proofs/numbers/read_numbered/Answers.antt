use Rattle.qm_certtext.proofs.Counts.{both_read, parts_are, small_parts}
use Rattle.std.proofs.{Common.arith, Common.length, Common.sym, Common.◌≡◌, lemmas.Bool.eqb-true, lemmas.Int.ints}
use Rattle.std.proofs.Common.{ap, drop, ◌∙◌}
use mir.{Syntax.w64, Val.of_z, Val.to_z}
use Rattle.qm_certtext.proofs.numbers.read_numbered.Goals as goal

pub returns-then-is_empty : goal.returns-then-is_empty
returns-then-is_empty c z up small is =
    let parts = parts_are c.find_byte.ensures.exact c.split_at.ensures.front c.split_at.ensures.back z up small is in
    omega (arith, ap length parts.1, eqb-true (length c.split_at.result.1.now) 0 (sym c.if-is_empty.ensures))

pub returns-in_default : goal.returns-in_default
returns-in_default c z up small is = c.in_default.ensures z (small_parts z up small).0
    (parts_are c.find_byte.ensures.exact c.split_at.ensures.front c.split_at.ensures.back z up small is).0

pub returns-in_default-read_count : goal.returns-in_default-read_count
returns-in_default-read_count c z up small is =
    let parts = parts_are c.find_byte.ensures.exact c.split_at.ensures.front c.split_at.ensures.back z up small is in
    c.in_default-read_count.ensures up (omega (arith, (small_parts z up small).1))
    (c.behind_first.ensures ∙ ap (drop 1) parts.1)

pub returns : goal.returns
returns c =
    let back : to_z w64 (of_z w64 c.in-Some.number) ≡ c.in-Some.number = omega (arith, ints, c.in-Some.ensures.0) in
    rw back (both_read c.find_byte.ensures.exact c.split_at.ensures.front c.split_at.ensures.back
    c.behind_first.result.now c.in-Some.number c.in-Some-read_count.up c.if-is_empty.ensures c.behind_first.ensures
    c.in-Some.ensures.0 c.in-Some.ensures.1 c.in-Some-read_count.ensures.0 c.in-Some-read_count.ensures.1)
