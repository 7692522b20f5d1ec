use Rattle.std.proofs.Common.{arith, true}
use Rattle.qm_merge.proofs.Names.{few_more, noted_new, noted_start, noted_still, seam_low, still_below}
use Rattle.qm_merge.proofs.waiting.note_from.Goals as goal

pub index_mut-requires : goal.index_mut-requires
index_mut-requires c = let f = c.is_full.ensures in
    grind (arith, seam_low f.laws f.full c.in-Some.ensures.found)

pub returns-in_ok-insert : goal.returns-in_ok-insert
returns-in_ok-insert c =
    let f = c.is_full.ensures in
    let seam = c.in-Some.ensures.found in
    let starts = c.args.links.now.starts.items in
    let are = c.requires.tied.starts in
    let old = c.args.names.now in
    let up = c.in_ok-insert.ensures.updates in
    record {
      tied = record {
        linked = c.requires.tied.linked;
        starts = noted_start f.laws f.full seam starts are c.requires.dart;
      };
      noted = noted_new f.laws f.full seam starts are old c.insert.new.self up;
      kept = noted_still f.laws f.full seam starts are old c.insert.new.self up;
      below = still_below old c.insert.new.self c.in-Some.seam.name true up _ (λ _. seam_low f.laws f.full seam);
      few = few_more c.in_ok-insert.field-0 _ _ c.in_ok-insert.ensures.len;
    }

pub returns-in_default-clause-noted : goal.returns-in_default-clause-noted
returns-in_default-clause-noted c = λ t n name arc named. absurd (c.in_default.ensures.none t n arc)
