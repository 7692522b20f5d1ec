-- How many riders pass a test with their notes.
use Rattle.std.proofs.lemmas.Grind.{common_steps}
use Rattle.std.proofs.Common.{rules, ◌≡◌, ◌≢◌, ◌↔◌, ℕ, zero, suc, ◌+◌, ◌<◌, ◌≤◌, Bool, true, false, eqb, List, ◌∷◌, map}
use Rattle.std.proofs.Common.{length, set, replicate, Option, Some, None, sym, ap, ◌∙◌, refl, inl, inr, arith, [], ◌^◌}
use Rattle.std.proofs.{Common.cond, Common.◌||◌, lemmas.Bool.and_parts}
use Rattle.std.proofs.lemmas.Bool.{true_from_ne_false, eq-eqb, ne_eqb, eqb-true, false≢true}
use Rattle.std.proofs.lemmas.List.{set-get_or}
use Rattle.def_cut.specs.Motion.{Terrain, end_of, is_among, begun, stop_of, or_else, straight, after_ride, ridden}
use Rattle.def_cut.specs.Motion.{arrives_at, ride, later, State}
use Rattle.def_cut.specs.{declared.graph.Stop.Stop, declared.moving.Moving.Moving, FullCut.is_on, Traced.terrain_of}
use Rattle.def_cut.specs.Events.{all_told, darts_in, is_waiting, more_if, note_at, rider_at, waiting}
use Rattle.motion_laws.proofs.{Marks.noted_among, Marks.noted_where, Steps.stands, Onward.later_reached}
use Rattle.motion_laws.proofs.Shown.{AreShown, runs_ridden, with_cases}
use Rattle.motion_laws.proofs.Among.{all_at, not_all, cases_Option, any_at, any_where}
use Rattle.qm_trace.specs.Motions.{AreCounted, is_untold, runs_on, tally}
use Rattle.qm_trace.specs.Tables.{is_running, AreDarts, CanRide, IsInstant, IsQueue, IsTableAt, dart_of, state_at}
use Rattle.def_mesh.specs.Darts.{to_of}
use Rattle.{motion_laws.proofs.Bits.IsReachedFrom, qm_trace.specs.declared.telling.Riders.Riders}
use Rattle.{def_mesh.specs.Faces.Faces, def_mesh.specs.Manifold.IsManifold, def_feature.specs.Marked.marked_first}
use Rattle.{std.specs.List.list_all, std.specs.List.list_any, sum_laws.proofs.Tests.same_test}
use Rattle.{site_laws.proofs.Sites.terrain, feature_laws.proofs.Breaks.begins, feature_laws.proofs.First.marked_begin}

-- One rider and its note changed.
pub tally_set : (p : Moving → Option ℕ → Bool) (rs : List Moving) (ns : List (Option ℕ)) (r : ℕ) (x : Moving)
    (n : Option ℕ) → r < length rs → r < length ns → tally p (set rs r x) (set ns r n) + more_if
    (p (rider_at rs r) (note_at ns r)) 0 ≡ tally p rs ns + more_if (p x n) 0
tally_set p (q ∷ rs) (k ∷ ns) zero x n l h = search rules
tally_set p (q ∷ rs) (k ∷ ns) (suc r) x n l h = search (rules, tally_set p rs ns r x n (omega arith) (omega arith))
tally_set p _ _ r x n l h = absurd (omega arith)

pub tally_rider : (p : Moving → Option ℕ → Bool) (rs : List Moving) (ns : List (Option ℕ)) (r : ℕ) (x : Moving)
    → r < length rs → r < length ns → tally p (set rs r x) ns + more_if (p (rider_at rs r) (note_at ns r)) 0
    ≡ tally p rs ns + more_if (p x (note_at ns r)) 0
tally_rider p rs ns r x l h = rw (set-get_or ns r None) at (tally_set p rs ns r x (note_at ns r) l h)

-- Who passes is counted.
pub tally_some : (p : Moving → Option ℕ → Bool) (rs : List Moving) (ns : List (Option ℕ)) (r : ℕ) → r < length rs
    → r < length ns → p (rider_at rs r) (note_at ns r) ≡ true → 0 < tally p rs ns
tally_some p (q ∷ rs) (k ∷ ns) zero l h e = rw e (omega arith)
tally_some p (q ∷ rs) (k ∷ ns) (suc r) l h e = search (rules, tally_some p rs ns r (omega arith) (omega arith) e)
tally_some p _ _ r l h e = absurd (omega arith)

pub tally_none : (p : Moving → Option ℕ → Bool) (rs : List Moving) (ns : List (Option ℕ))
    → ((r : ℕ) → r < length rs → p (rider_at rs r) (note_at ns r) ≡ false) → tally p rs ns ≡ 0
tally_none p [] ns none = refl
tally_none p (q ∷ rs) [] none = refl
tally_none p (q ∷ rs) (k ∷ ns) none =
    grind (arith, none 0 (omega arith), tally_none p rs ns (λ r l. none (suc r) (omega arith)))

-- Who waits, by such a test.
abbrev pub waits_now : (rider : Moving) (note : Option ℕ) → Bool
waits_now rider note = is_waiting rider.stop note

pub waiting_is : (rs : List Moving) (ns : List (Option ℕ)) → waiting rs ns ≡ tally waits_now rs ns
waiting_is [] ns = refl
waiting_is (q ∷ rs) [] = refl
waiting_is (q ∷ rs) (k ∷ ns) = ap (more_if (is_waiting q.stop k)) (waiting_is rs ns)

-- Without notes all who run wait, and nobody is untold.
pub none_untold : (rs : List Moving) (k : ℕ) → tally is_untold rs (replicate k None) ≡ 0
none_untold [] k = refl
none_untold (q ∷ rs) zero = refl
none_untold (q ∷ rs) (suc k) = search (rules, none_untold rs k)

pub all_wait : (rs : List Moving) (ns : List (Option ℕ)) → length ns ≡ length rs
    → waiting rs (replicate (length ns) None) ≡ tally runs_on rs ns
all_wait [] ns e = refl
all_wait (q ∷ rs) [] e = absurd (omega arith)
all_wait (q ∷ rs) (k ∷ ns) e = search (rules, all_wait rs ns (omega arith))

-- Whatever the notes, as many run.
pub tally_runs : (rs : List Moving) (ns ms : List (Option ℕ)) → length ns ≡ length ms → tally runs_on rs ns
    ≡ tally runs_on rs ms
tally_runs [] ns ms e = refl
tally_runs (q ∷ rs) [] [] e = refl
tally_runs (q ∷ rs) (k ∷ ns) (j ∷ ms) e = ap (more_if (is_running q.stop)) (tally_runs rs ns ms (omega arith))
tally_runs (q ∷ rs) _ _ e = absurd (omega arith)

-- At first all run.
pub all_run : (starts : List ℕ) → tally runs_on (map begun starts) (replicate (length starts) None) ≡ length starts
all_run [] = refl
all_run (d ∷ ds) = ap suc (all_run ds)

-- Telling riders with notes changes not who waits.
pub waiting_told : (g : Terrain) (stood : ℕ → Bool) (ds : List ℕ) (v : ℕ) (rs : List Moving) (ns : List (Option ℕ))
    → waiting (all_told g stood ds v rs ns) ns ≡ waiting rs ns
waiting_told g stood ds v [] ns = refl
waiting_told g stood ds v (q ∷ rs) [] = refl
waiting_told g stood ds v (q ∷ rs) (n ∷ ns) = search (rules, waiting_told g stood ds v rs ns)

-- Nobody is untold where the ends of all noted darts are settled, and only there.
pub untold_is : {g : Terrain} {stood : ℕ → Bool} {ds : List ℕ} {V : ℕ → Bool} {bs rs : List Moving}
    {ns : List (Option ℕ)} → AreShown g stood ds V bs rs ns
    → ((d : ℕ) → is_among d (darts_in ns) ≡ true → stop_of g stood ds d ≡ None → or_else (straight g d) d ≢ d)
    → eqb (tally is_untold rs ns) 0 ≡ list_all (λ d. V (end_of g d)) (darts_in ns)
untold_is {g} {stood} {ds} {V} {bs} {rs} {ns} a onward = same_test _ _ (λ e. true_from_ne_false _ (λ off.
    let (d, m, o) = not_all (λ d. V _) _ off in
    let (r, l, n) = noted_where ns d m in
    let (runs, same) = a.noted r d n in
    search (rules, tally_some))) (λ all. eq-eqb _ 0 (tally_none is_untold rs ns (λ r l. search (
      rules,
      cases_Option (note_at ns r),
      noted_among ns r,
      all_at (λ d. V (end_of g d)),
      was_told,
    ))))
  where
    -- Who was told is not untold.
    was_told : (d rides : ℕ) (o : Option Stop) → (o ≡ None → or_else (straight g d) d ≢ d)
        → is_untold (after_ride g d rides o) (Some d) ≡ false
    was_told d rides o f = search (rules, ne_eqb)

-- Nobody is counted as running where nobody runs, and only there.
pub over_is : (riders : Riders) (noted : List (Option ℕ)) → AreCounted riders noted → (eqb riders.running 0 ≡ true) ↔
    ((r : ℕ) → r < length riders.list.items → ¬ ((rider_at riders.list.items r).stop ≡ None))
over_is riders noted k = search (rules, tally_some, tally_none)

-- At most all are counted.
pub tally_few : (p : Moving → Option ℕ → Bool) (rs : List Moving) (ns : List (Option ℕ)) → tally p rs ns ≤ length rs
tally_few p [] ns = omega arith
tally_few p (q ∷ rs) [] = omega arith
tally_few p (q ∷ rs) (k ∷ ns) = search (rules, tally_few p rs ns)

-- The tables after a step.

-- What some value along a list passes.
any_map : (p : ℕ → Bool) (f : ℕ → ℕ) (q : List ℕ) → list_any p (map f q) ≡ list_any (λ r. p (f r)) q
any_map p f [] = refl
any_map p f (x ∷ q) = ap (λ b. p (f x) || b) (any_map p f q)

-- Who rides a dart.
pub ridden_where : (rs : List Moving) (d : ℕ) → is_among d (ridden rs) ≡ true → (r : ℕ) × (r < length rs)
    × ((rider_at rs r).stop ≡ None) × ((rider_at rs r).dart ≡ d)
ridden_where [] d m = absurd (false≢true m)
ridden_where (x ∷ rs) d m = elim (with_cases x.stop x.dart d (ridden rs) m) [
  | inl e ↦ (0, omega arith, e.0, sym e.1)
  | inr k ↦ let r = ridden_where rs d k in (suc r.0, omega (arith, r.1), r.2, r.3)
]

-- The darts of the queue are those ridden next.
pub same_darts : (riders : List Moving) (queue ds : List ℕ) → IsQueue riders queue → ds ≡ map (dart_of riders) queue
    → (d : ℕ) → is_among d ds ≡ is_among d (ridden riders)
same_darts riders queue ds q e d = ap (is_among d) e ∙ (any_map (λ e. eqb d e) (dart_of riders) queue ∙ same_test _ _
    (search (rules, any_where, runs_ridden)) (search (rules, ridden_where, any_at)))

-- Riders that have just begun have not ridden.
pub begun_low : (ds : List ℕ) (r : ℕ) → (rider_at (map begun ds) r).rides ≤ 0
begun_low [] r = omega arith
begun_low (d ∷ ds) zero = omega arith
begun_low (d ∷ ds) (suc r) = begun_low ds r

-- At most one ride a step.
one_more : (g : Terrain) (stood : ℕ → Bool) (ds : List ℕ) (x : Moving) → (ride g stood ds x).rides ≤ suc x.rides
one_more g stood ds x = search rules

pub rides_low : (g : Terrain) (first : State) → ((r : ℕ) → (rider_at first.riders r).rides ≤ 0) → (k r : ℕ)
    → (rider_at (later g first k).riders r).rides ≤ k
rides_low g first none zero r = none r
rides_low g first none (suc k) r = grind (arith, common_steps, rides_low g first none k r)

-- A step from the tables, where riders wait in the queue and ride these darts.
module _ {faces : Faces} {marks : List Bool} {k : ℕ} {riders : List Moving} {stood covered taken : List Bool}
    {queue ds : List ℕ} (mesh : IsManifold faces) (at : IsTableAt faces marks k riders stood covered taken)
    (waits : IsQueue riders queue) (ridden_are : ds ≡ map (dart_of riders) queue) where
  abbrev now : State
  now = state_at faces marks k

  abbrev next : State
  next = state_at faces marks (suc k)

  reached : IsReachedFrom (terrain_of faces) (begins faces marks) (marked_first faces marks) now
  reached = search (rules, later_reached, terrain, marked_begin)

  pub are_darts : AreDarts faces ds
  are_darts d n = reached.low d (sym (search (rules, same_darts)) ∙ n)

  pub can_ride : k + 1 < 2 ^ 32 → CanRide faces riders queue
  can_ride few = record {
    low = λ r n. (waits.runs r n).0;
    dart = λ r n. are_darts (dart_of riders r) (search (rules, any_map, any_at));
    rides = search (rules, rides_low, begun_low);
    apart = waits.apart;
  }

  pub instant : (taken1 : List Bool) → ((d : ℕ) → is_on taken1 d ≡ cond (is_among d ds) true (is_on taken d))
      → IsInstant faces marks k riders queue stood taken1
  instant taken1 each = search (rules, same_darts)

  -- Somebody has stood at v after the step where one had before, or ends there now.
  pub stands_next : (v : ℕ) → (now.stood v || list_any (λ d. eqb (to_of faces d) v) ds) ≡ next.stood v
  stands_next v =
      let ends : list_any (λ d. eqb (to_of faces d) v) ds ≡ true → next.stood v ≡ true = λ n.
      let (d, m, e) = any_where (λ d. eqb (to_of faces d) v) ds n in
      ap next.stood (sym (eqb-true (to_of faces d) v e)) ∙ stands (terrain_of faces) (terrain faces mesh)
      (begins faces marks) (marked_first faces marks) now reached d (sym (search (rules, same_darts)) ∙ m) in
      let came : list_any (arrives_at (terrain_of faces) (ridden now.riders) v) (ridden now.riders) ≡ true
      → list_any (λ d. eqb (to_of faces d) v) ds ≡ true = λ n.
      let (d, m, e) = any_where (arrives_at (terrain_of faces) (ridden now.riders) v) (ridden now.riders) n in
      any_at (λ x. eqb (to_of faces x) v) d ds ((search (rules, same_darts)) ∙ m) (and_parts _ _ e).0 in
      grind arith
