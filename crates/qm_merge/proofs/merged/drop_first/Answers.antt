use Rattle.std.proofs.Common.{rules}
use Rattle.std.proofs.{Common.◌^◌, Common.arith, lemmas.Result.on_ok_weaker}
use Rattle.qm_merge.proofs.{Rejoined.both_ok, Rejoined.marks_fewer, Rejoined.wait_still, Linked.has_room}
use Rattle.qm_merge.proofs.{Linked.links_after, Rounds.next_is_corner}
use Rattle.qm_merge.proofs.merged.drop_first.Goals as goal

pub invariant_of-linked : goal.invariant_of-linked
invariant_of-linked c = record { tied = rw c.new-before.ensures c.requires.tied }

pub join_rounds-requires : goal.join_rounds-requires
join_rounds-requires c = let f = c.requires.cutting in
    has_room f.laws f.full _ c.requires.tied.linked (rw c.new-before.ensures at c.round_from-near.ensures)
    (rw c.new-before.ensures at c.round_from-far.ensures) _ (omega (arith, f.few))

pub note_from-requires-clause-tied : goal.note_from-requires-clause-tied
note_from-requires-clause-tied c = let f = c.requires.cutting in
    rw c.new-after.ensures (record {
      linked = links_after f.laws f.full c.requires.seam.joinable c.drop_seam.ensures.without
          (rw c.new-before.ensures at c.round_from-near.ensures) (rw c.new-before.ensures at c.round_from-far.ensures)
          c.requires.tied.linked c.join_rounds.ensures;
      starts = rw c.join_rounds.ensures.starts c.requires.tied.starts;
    })

pub note_from-requires-clause-dart : goal.note_from-requires-clause-dart
note_from-requires-clause-dart c = let f = c.requires.cutting in rw c.new-after.ensures
    (next_is_corner f.laws f.full (rw c.new-before.ensures at c.round_from-near.ensures).fourth).0

pub note_from-requires-2-clause-dart : goal.note_from-requires-2-clause-dart
note_from-requires-2-clause-dart c = let f = c.requires.cutting in rw c.new-after.ensures
    (next_is_corner f.laws f.full (rw c.new-before.ensures at c.round_from-far.ensures).fourth).0

pub returns-clause-waiting : goal.returns-clause-waiting
returns-clause-waiting c =
    let one = rw c.new-after.ensures at c.in_ok-note_from.ensures.noted in
    let still = rw c.new-after.ensures at c.in_ok-note_from.ensures.kept in
    both_ok c.note_from-2.result (λ noted kept. wait_still _ c.requires.cutting _ c.requires.seam
    c.drop_seam.ensures.long c.drop_seam.ensures.without (rw c.new-before.ensures at c.round_from-near.ensures)
    (rw c.new-before.ensures at c.round_from-far.ensures) _ _ _ _ _ _ one (λ r u m name arc named old. still r u m _ arc
    named (rw c.join_rounds.ensures.starts old)) noted kept) (rw c.new-after.ensures at c.note_from-2.ensures.noted)
    (rw c.new-after.ensures at c.note_from-2.ensures.kept)

pub returns-clause-below : goal.returns-clause-below
returns-clause-below c = let one = rw c.new-after.ensures at c.in_ok-note_from.ensures.below in
    search (rules, one c.requires.below)

pub returns-clause-fewer : goal.returns-clause-fewer
returns-clause-fewer c = search (
  rules,
  marks_fewer c.drop_seam.new.cut c.requires.cutting c.args.place c.requires.seam
      c.drop_seam.ensures.long c.drop_seam.ensures.without,
)
