use Rattle.std.proofs.Common.{rules, arith, pos, length, sym, ap}
use Rattle.std.proofs.lemmas.Bool.{eqb-true}
use Rattle.qm_certtext.proofs.Counts.{both_read, rise_not_zero, rise_parts}
use Rattle.qm_certtext.proofs.numbers.read_rise.Goals as goal

pub returns-then-is_empty : goal.returns-then-is_empty
returns-then-is_empty c rise may is =
    let parts = rise_parts c.find_byte.ensures.exact c.split_at.ensures.front c.split_at.ensures.back rise may is in
    omega (arith, ap length parts.1, eqb-true (length c.split_at.result.1.now) 0 (sym c.if-is_empty.ensures))

pub returns-in_default : goal.returns-in_default
returns-in_default c rise may is =
    let parts = rise_parts c.find_byte.ensures.exact c.split_at.ensures.front c.split_at.ensures.back _ may is in
    search rules

pub returns-in-Some-read_count : goal.returns-in-Some-read_count
returns-in-Some-read_count c =
    grind (
      arith,
      both_read c.find_byte.ensures.exact c.split_at.ensures.front c.split_at.ensures.back
          c.behind_first.result.now (pos c.in-Some-read_count.number) c.in-Some.floor,
    )

pub returns-in_default-read_count : goal.returns-in_default-read_count
returns-in_default-read_count c = rise_not_zero c.find_byte.ensures.exact c.split_at.ensures.front
    c.split_at.ensures.back c.in-Some-read_count.number (omega arith) c.in-Some-read_count.ensures.1

pub returns-in_default-read_count-2 : goal.returns-in_default-read_count-2
returns-in_default-read_count-2 c rise may is =
    grind (arith, rise_parts c.find_byte.ensures.exact c.split_at.ensures.front c.split_at.ensures.back rise may is)
