use Rattle.qm_obj.proofs.FeedLemmas.{both_taken, refused_before, refused_behind, takes_behind}
use Rattle.qm_obj.{proofs.TailLemmas.prefix_fed, proofs.TailLemmas.prefix_rest, specs.Views.kept_at}
use Rattle.std.proofs.lemmas.{List.length-drop, List.length-take, List.take-append-drop}
use Rattle.std.proofs.{Common.arith, Common.drop, Common.length, Common.take, Common.◌+◌, Common.◌-◌}
use Rattle.{error_laws.proofs.Errors.handed}
use Rattle.qm_obj.proofs.progress.Progress.take.Goals as goal

pub loop-end-preserved : goal.loop-end-preserved
loop-end-preserved c =
    let piece = c.args.piece.now in
    let at = c.loop-end.at in
    let found = c.in-Some.ensures in
    record {
      within = omega (arith, length-take (length piece - at) (drop at piece), length-drop at piece);
      took = rw (prefix_fed piece at c.in-Some.end found.more found.within found.feed)
          (both_taken c.loop-end.invariant.took c.in_ok-end_line.ensures.took);
    }

pub returns-in_err-end_line-clause-refused : goal.returns-in_err-end_line-clause-refused
returns-in_err-end_line-clause-refused c =
    let piece = c.args.piece.now in
    let end = c.loop-end.at + c.in-Some.end in
    let found = c.in-Some.ensures in
    handed _ _ _ c.from_residual.ensures.1 (λ other. rw (← take-append-drop end piece)
    (refused_before (kept_at c.args.self.now) (take end piece) (drop end piece) _
    (rw (prefix_fed piece c.loop-end.at c.in-Some.end found.more found.within found.feed)
    (refused_behind _ _ c.loop-end.invariant.took (c.in_err-end_line.ensures.refused other)))))

pub returns : goal.returns
returns c = rw (← prefix_rest c.args.piece.now c.loop-end.at) (takes_behind _ _ c.keep.result c.loop-end.invariant.took
    c.keep.ensures.took c.keep.ensures.refused)
