use Rattle.std.proofs.Common.{rules, refl, false, suc, sym, ◌∙◌, arith}
use Rattle.std.proofs.{lemmas.Bool.false≢true, lemmas.Map.Keys.le_from_not_gt}
use Rattle.def_mesh.specs.{Darts.darts, HalfEdges.half_edges}
use Rattle.merge_laws.proofs.{Beside.part_reached, Beside.held_law, Beside.turned_may, Decided.name_there}
use Rattle.qm_merge.proofs.{Rejoined.less_on, Rejoined.name_gone, Rejoined.step_taken}
use Rattle.qm_merge.proofs.Names.{free_still, none_waits, seam_free, still_waits, taken_below}
use Rattle.{def_merge.specs.Beside.may_beside, feature_laws.proofs.Conforming.mark_low}
use Rattle.qm_merge.proofs.merged.merge_all.Goals as goal

pub loop-name-init : goal.loop-name-init
loop-name-init c = let all = rw c.new-whole.ensures at c.in_ok-names.ensures.all in
    record {
      cutting = c.requires.cutting;
      tied = rw c.new-whole.ensures at c.in_ok-names.ensures.tied;
      reached = (0, refl);
      waiting = λ s t n name arc free named. all s t n name arc named;
      below = rw c.new-whole.ensures at c.in_ok-names.ensures.below;
    }

pub invariant_of-linked : goal.invariant_of-linked
invariant_of-linked c = record { tied = rw c.new-now.ensures c.loop-name.invariant.tied }

pub drop_first-requires-clause-below : goal.drop_first-requires-clause-below
drop_first-requires-clause-below c = taken_below c.loop-name.names c.pop_first.new.self c.in-Some.name
    (darts c.args.mesh.now) c.in-Some.ensures.updates c.loop-name.invariant.below

pub loop-name-preserved-in-Continue-branch-3 : goal.loop-name-preserved-in-Continue-branch-3
loop-name-preserved-in-Continue-branch-3 c =
    let e = c.in_ok-drop_first.ensures in
    let may = rw c.new-now.ensures at c.may_leave.ensures in
    let p = c.in-Some-place_of.ensures in
    let found = rw c.new-now.ensures at p.found in
    let was = c.loop-name.invariant in
    let rest = c.drop_first.new.cut in
    let place = c.in-Some-place_of.place in
    record {
      cutting = e.cutting;
      tied = e.tied;
      reached = (
        suc was.reached.0,
        (
          c.loop-name.cut,
          was.reached.1,
          step_taken rest was.cutting place found e.long e.without (may_beside c.args.mesh.now c.args.marks.now)
              (may.0 c.if-may_leave.true) (λ r u m name arc free named. omega (
                arith,
                le_from_not_gt c.in-Some.name name
                    (c.in-Some.ensures.least name (was.waiting r u m name arc free named).0),
              )),
        ),
      );
      waiting = λ s t n name arc free named. e.waiting s t n name arc named (λ old.
          let w = was.waiting s t n name old (held_law c.args.mesh.now c.args.marks.now c.loop-name.cut rest s t n
          (less_on rest was.cutting place found e.long e.without) free) named in (
            still_waits c.loop-name.names c.pop_first.new.self c.in-Some.name false
                c.in-Some.ensures.updates name (λ same. absurd (name_gone rest was.cutting place found
                e.long e.without arc named (same ∙ sym p.named))) w.0,
            w.1,
          ));
      below = e.below;
    }

pub loop-name-preserved-else-may_leave : goal.loop-name-preserved-else-may_leave
loop-name-preserved-else-may_leave c =
    let was = c.loop-name.invariant in
    let free = rw c.new-now.ensures at c.may_leave.ensures in
    let place = c.in-Some-place_of.ensures in
    assumption (
      free_still was.cutting.laws was.cutting.full _ (turned_may c.args.mesh.now c.args.marks.now c.loop-name.cut) _ _ _
          _ c.in-Some.ensures.updates was.waiting (λ t n arc y named. false≢true (sym c.if-may_leave.false
          ∙ free.1 (seam_free was.cutting.laws was.cutting.full (may_beside c.args.mesh.now _ _)
          (rw c.new-now.ensures at place.found) {t = t} {n = n} (rw place.start arc) (rw place.start y)))),
      taken_below _ _ _ _ c.in-Some.ensures.updates was.below,
    )

pub loop-name-preserved : goal.loop-name-preserved
loop-name-preserved c =
    let was = c.loop-name.invariant in
    assumption (
      free_still was.cutting.laws was.cutting.full _ (turned_may c.args.mesh.now c.args.marks.now c.loop-name.cut) _ _ _
          _ c.in-Some.ensures.updates was.waiting
          (λ t n arc free. (rw c.new-now.ensures at c.in_default-place_of.ensures.none) t n arc),
      taken_below _ _ _ _ c.in-Some.ensures.updates was.below,
    )

pub returns-clause-merged : goal.returns-clause-merged
returns-clause-merged c = record {
  steps = c.loop-name.invariant.reached.0;
  reached = c.loop-name.invariant.reached.1;
  merged = λ s t n arc free.
      let m = name_there _ s t n arc.glued.near.some in
      search (rules, none_waits c.loop-name.names.keys m.0, c.loop-name.invariant.waiting s t n m.0 arc free m.1);
}

pub returns-clause-part : goal.returns-clause-part
returns-clause-part c = search (rules, part_reached, mark_low)
