use Rattle.std.proofs.Common.{rules, ◌≡◌, suc, ◌+◌, ◌-◌, length, arith}
use Rattle.qm_forest.proofs.Waitings.{entry_low, wait_before, wait_begins}
use Rattle.qm_forest.proofs.forest.Forest.match_waiting.Goals as goal

pub loop-k-init : goal.loop-k-init
loop-k-init c = record {
  room = c.requires.room;
  done = λ rest due r. r;
  later = wait_begins _ _ c.requires.sets (omega arith) c.requires.room.left_out c.requires.begun.2.entry;
}

pub loop-k-preserved : goal.loop-k-preserved
loop-k-preserved c =
    let one : suc (length c.args.sets.now - (c.loop-k.k + 1)) ≡ length c.args.sets.now - c.loop-k.k = omega arith in
    let round = c.match_set.ensures.done c.requires.begun.0 c.requires.begun.1 (search rules) in
    record {
      room = c.match_set.ensures.room;
      done = λ rest due r. c.match_set.ensures.done rest due (c.loop-k.invariant.done rest due r);
      later = wait_before _ _ _ c.requires.sets (omega arith) (search rules) (rw one c.loop-k.invariant.later)
          c.match_set.ensures.entries (λ b w is. (let it = round.entry b w is in
          search (rules, entry_low)));
    }
