-- A walk onward from the end of a walk back is a longest run, and with it the runs of one dart more are found.
use Rattle.std.proofs.lemmas.Grind.{common_steps}
use Rattle.std.proofs.Common.{rules, ◌≡◌, ◌≢◌, ◌⊎◌, ℕ, zero, suc, ◌+◌, ◌-◌, ◌<◌, ◌≤◌, Bool, true, false, Some, List, []}
use Rattle.std.proofs.Common.{◌∷◌, ◌++◌, length, replicate, get_or, sym, ap, ◌∙◌, refl, inl, inr, arith, ◌/◌, map}
use Rattle.std.proofs.lemmas.List.{length-append, length-replicate, map-append, get_or_append_left, get_or-append-add}
use Rattle.std.proofs.lemmas.Bool.{cases_Bool, cases_eq, cases_lt}
use Rattle.def_runs.specs.Runs.{IsLongestRun, first_dart, follower, is_closed, last_dart, nth_run}
use Rattle.qm_sing.specs.Walks.{AreRunsBelow, AreRunsSoFar, IsBack, IsLine, leader, walked}
use Rattle.qm_sing.proofs.Walking.{back_of, follows, leads, on_from, places_differ, walk_low, walk_list, walk_long}
use Rattle.std.proofs.{lemmas.List.get_or-replicate, lemmas.List.length-map, lemmas.Option.none-some}
use Rattle.std.proofs.{lemmas.Option.same_Some, lemmas.Bool.Decides.nat_tests, lemmas.List.FromFn.length-range_with_len}
use Rattle.def_mesh.specs.{Components.component_numbers, Components.least_faces, Faces.Faces, Darts.darts}
use Rattle.def_mesh.specs.{Manifold.IsManifold, Kinds.kind_of, Vertices.all_vertices, Vertices.vertex_count}
use Rattle.qm_sing.proofs.{Numberings.number_low, Numberings.number_read, Walking.walk_at, Walking.holds_at}
use Rattle.{qm_sing.specs.declared.flooding.TheConstants.NONE, qm_sing.specs.declared.lines.Line.Line}
use Rattle.{cut_laws.proofs.Pigeon.sent_or_not, def_mesh.specs.declared.Kind.Kind, list_laws.proofs.Filters.last_or}

-- A walk onward from the end of a walk back is a longest run.
module _ {faces : Faces} (m : IsManifold faces) {d first r : ℕ} {line : Line} {run_old run at_old at : List ℕ}
    (low : d < darts faces) (back : IsBack faces d first) (on : IsLine faces first r line run_old run at_old at) where
  abbrev ahead : (k : ℕ) → ℕ
  ahead = walked (follower faces) first

  abbrev behind : (k : ℕ) → ℕ
  behind = walked (leader faces) d

  abbrev trail : List ℕ
  trail = walk_list ahead on.last

  behind_low : (k : ℕ) → k ≤ back.steps → behind k < darts faces
  behind_low = walk_low (leads m) d low back.steps back.goes

  ahead_low : (k : ℕ) → k ≤ on.last → ahead k < darts faces
  ahead_low = walk_low (follows m) first back.first_low on.last on.goes

  undone : (k : ℕ) → k < back.steps → follower faces (behind (suc k)) ≡ Some (behind k)
  undone k l = on_from m (behind k) (behind (suc k)) (behind_low k (omega arith)) (back.goes k l)

  last_at : last_dart trail ≡ ahead on.last
  last_at = let e : length trail - 1 ≡ on.last = omega (arith, walk_long ahead on.last) in
      ap (λ k. get_or trail k 0) e ∙ walk_at ahead on.last on.last (omega arith)

  first_at : first_dart trail ≡ first
  first_at = walk_at ahead on.last 0 (omega arith)

  -- Where the walk back comes to d again, the walk onward does not end.
  module _ (round : leader faces (behind back.steps) ≡ Some d) (same : first ≡ d) where
    goes_round : (i : ℕ) → i ≤ back.steps → (k : ℕ) × (k ≤ back.steps) × (follower faces (behind i) ≡ Some (behind k))
    goes_round zero h = grind (arith, on_from m (behind back.steps) d (behind_low back.steps (omega arith)) round)
    goes_round (suc i) h = (i, omega arith, undone i (omega arith))

    -- So the walk onward goes on.
    goes_on : (j : ℕ) → j ≤ on.last → (k : ℕ) × (k ≤ back.steps) × (follower faces (ahead j) ≡ Some (behind k))
    goes_on zero l = rw same (goes_round 0 (omega arith))
    goes_on (suc j) l = let (k, h, is) = goes_on j (omega arith) in
        rw (same_Some _ _ (sym (on.goes j (omega arith)) ∙ is)) (goes_round k h)

    not_open : line.closed ≡ false → ⊥
    not_open off = let (k, h, is) = goes_on on.last (omega arith) in none-some (behind k) (sym (on.opens off) ∙ is)

  -- What leads to the first dart was met again on the way back.
  met_again : (e : ℕ) → e < darts faces → follower faces e ≡ Some first
      → (first ≡ d) × (leader faces (behind back.steps) ≡ Some d)
  met_again e l is = elim back.stops [
    | inl s ↦ absurd (none-some e (sym s.0 ∙ back_of m e first l is))
    | inr s ↦ s
  ]

  closed_at : line.closed ≡ true → first ≡ d
  closed_at shut = (met_again (ahead on.last) (ahead_low on.last (omega arith)) (on.closes shut)).0

  short : (k : ℕ) → k < length trail → k < suc on.last
  short k l = omega (arith, walk_long ahead on.last)

  stands : (k : ℕ) → k < length trail → get_or trail k 0 ≡ ahead k
  stands k l = walk_at ahead on.last k (short k l)

  pub longest : IsLongestRun faces trail
  longest = record {
    some = omega (arith, walk_long ahead on.last);
    low = λ k l. rw (stands k l) (ahead_low k (omega (arith, short k l)));
    differ = λ i j l h e. places_differ (follows m) first back.first_low on.last on.goes on.away i j l
        (omega (arith, short j h)) (sym (stands i (omega arith)) ∙ (e ∙ stands j h));
    straight = λ k l. grind (arith, stands k, stands (suc k), on.goes k, short (suc k) l);
    ends = λ e is.
        let begin = holds_at ahead on.last 0 e (omega arith) in
        grind (arith, cases_Bool line.closed, begin, on.closes, on.opens, last_at, is);
    begins = λ e l is.
        let from : follower faces e ≡ Some first = is ∙ ap Some first_at in
        let last = holds_at ahead on.last on.last e (omega arith) in
        let once = (follows m).once (ahead on.last) e first (ahead_low on.last (omega arith)) l in
        let met = met_again e l from in
        grind (arith, cases_Bool line.closed, last, once, on.closes, from, not_open met.1 met.0);
  }

  pub closed_is : is_closed faces trail ≡ line.closed
  closed_is = grind (arith, nat_tests, cases_Bool line.closed, last_at, first_at, on.closes, on.opens)

  -- The walk onward goes the way back.
  along : first ≡ behind back.steps → (j i : ℕ) → j + i ≡ back.steps → j ≤ on.last → ahead j ≡ behind i
  along e zero i s l = e ∙ ap behind (omega arith)
  along e (suc j) i s l = search (rules, undone, along e j (suc i) (omega arith) (omega arith))

  too_short : first ≡ behind back.steps → (i : ℕ) → on.last + suc i ≡ back.steps → ⊥
  too_short e i s =
      let next = ap (follower faces) (along e on.last (suc i) s (omega arith)) ∙ undone i (omega arith) in
      grind (arith, places_differ (leads m) d low back.steps back.goes back.away i back.steps)

  -- The dart with which the walk back began stands in the run.
  pub d_stands : (k : ℕ) × (k < suc on.last) × (ahead k ≡ d)
  d_stands =
      let short = λ (e : first ≡ behind back.steps). too_short e (back.steps - suc on.last) in
      let there = λ (e : first ≡ behind back.steps). along e back.steps 0 (omega arith) in
      grind (arith, back.stops, cases_lt on.last back.steps, short, there)

-- In whole runs, a dart with its number leads to darts with numbers.
module _ {faces : Faces} (m : IsManifold faces) {d : ℕ} {run at : List ℕ} {lists : List (List ℕ)}
    (found : AreRunsBelow faces d run at lists) (few : length lists ≤ NONE) where
  held : (r : ℕ) → r < length lists → (k : ℕ) → k < length (nth_run lists r)
      → get_or run (get_or (nth_run lists r) k 0) 0 ≢ NONE
  held r l k h off = omega (arith, (found.told r k l h).0)

  fresh_where : (y : ℕ) → y < darts faces → ((r k : ℕ) → r < length lists → k < length (nth_run lists r)
      → get_or (nth_run lists r) k 0 ≡ y → ⊥) → get_or run y 0 ≡ NONE
  fresh_where y l none = search rules

  -- Where x is not numbered, neither is the dart before it, nor the one after it.
  pub before_fresh : (x y : ℕ) → x < darts faces → leader faces x ≡ Some y → get_or run x 0 ≡ NONE
      → get_or run y 0 ≡ NONE
  before_fresh x y l is fresh = fresh_where y ((leads m).low x y l is) (λ r k lr lk s.
      let next = ap (follower faces) s ∙ on_from m x y l is in
      elim (cases_lt (suc k) (length (nth_run lists r))) [
        | inl more ↦ grind (arith, (found.runs r lr).straight k more, held r lr (suc k) more, next, fresh)
        | inr last ↦
            let e : length (nth_run lists r) - 1 ≡ k = omega arith in
            let (j, h, t) = (found.runs r lr).ends x (rw e next) in held r lr j h (rw t fresh)
      ])

  pub after_fresh : (x y : ℕ) → x < darts faces → follower faces x ≡ Some y → get_or run x 0 ≡ NONE
      → get_or run y 0 ≡ NONE
  after_fresh x y l is fresh = fresh_where y ((follows m).low x y l is) by_place
    where
      by_place : (r k : ℕ) → r < length lists → k < length (nth_run lists r) → get_or (nth_run lists r) k 0 ≡ y → ⊥
      by_place r zero lr lk s = grind (arith, (found.runs r lr).begins x l, held r lr, is, s, fresh)
      by_place r (suc k) lr lk s =
          let it = found.runs r lr in
          let same = (follows m).once (get_or (nth_run lists r) k 0) x y (it.low k (omega arith)) l in
          grind (arith, it.straight k lk, same, held r lr k, is, s, fresh)

-- One run more is found.
module _ {faces : Faces} (m : IsManifold faces) {d first : ℕ} {line : Line} {run_old run at_old at len : List ℕ}
    {closed : List Bool} (so : AreRunsSoFar faces d run_old at_old len closed) (low : d < darts faces)
    (small : darts faces < NONE) (fresh : get_or run_old d 0 ≡ NONE) (back : IsBack faces d first)
    (on : IsLine faces first (length so.lists) line run_old run at_old at) (run_long : length run ≡ length run_old)
    (at_long : length at ≡ length at_old) where
  abbrev onward : (k : ℕ) → ℕ
  onward = walked (follower faces) first

  abbrev new : List ℕ
  new = walk_list onward on.last

  abbrev lists : List (List ℕ)
  lists = so.lists ++ new ∷ []

  long : length lists ≡ suc (length so.lists)
  long = length-append so.lists (new ∷ []) ∙ omega arith

  old_at : (r : ℕ) → r < length so.lists → nth_run lists r ≡ nth_run so.lists r
  old_at r l = get_or_append_left so.lists (new ∷ []) [] r l

  new_at : nth_run lists (length so.lists) ≡ new
  new_at = grind (arith, common_steps)

  -- Each run was found before, or is the new one.
  place : (r : ℕ) → r < length lists → ((r < length so.lists) × (nth_run lists r ≡ nth_run so.lists r))
      ⊎ ((r ≡ length so.lists) × (nth_run lists r ≡ new))
  place r l = grind (arith, cases_eq r (length so.lists), new_at, long, old_at r)

  -- No dart of the new run had a number.
  behind_fresh : (k : ℕ) → k ≤ back.steps → get_or run_old (walked (leader faces) d k) 0 ≡ NONE
  behind_fresh zero l = fresh
  behind_fresh (suc k) l = before_fresh m so.found (omega (arith, so.few)) _ _
      (behind_low m low back on k (omega arith)) (back.goes k (omega arith)) (behind_fresh k (omega arith))

  ahead_fresh : (k : ℕ) → k ≤ on.last → get_or run_old (onward k) 0 ≡ NONE
  ahead_fresh zero l = grind (arith, back.stops, behind_fresh back.steps (omega arith), fresh)
  ahead_fresh (suc k) l = after_fresh m so.found (omega (arith, so.few)) _ _ (ahead_low m low back on k (omega arith))
      (on.goes k (omega arith)) (ahead_fresh k (omega arith))

  -- So each of them is d or greater.
  list_high : (k : ℕ) → k < length new → d ≤ get_or new k 0
  list_high k l =
      grind (arith, walk_at onward on.last k, so.found.all (onward k), ahead_fresh k, walk_long onward on.last)

  -- A dart that had a number keeps it.
  kept_at : (e : ℕ) → get_or run_old e 0 ≢ NONE → (get_or run e 0 ≡ get_or run_old e 0)
      × (get_or at e 0 ≡ get_or at_old e 0)
  kept_at e old = on.told.kept e (λ k l s. old (rw (← s) (ahead_fresh k (omega arith))))

  told_old : (r : ℕ) → r < length so.lists → (k : ℕ) → k < length (nth_run so.lists r)
      → (get_or run (get_or (nth_run so.lists r) k 0) 0 ≡ r) × (get_or at (get_or (nth_run so.lists r) k 0) 0 ≡ k)
  told_old r l k h = search (rules, kept_at)

  told_new : (k : ℕ) → k < length new
      → (get_or run (get_or new k 0) 0 ≡ length so.lists) × (get_or at (get_or new k 0) 0 ≡ k)
  told_new k l = grind (arith, walk_at onward on.last k, on.told.told k, walk_long onward on.last)

  there : (e : ℕ) → e < darts faces → get_or run e 0 ≢ NONE → (get_or run e 0 < length lists)
      × (get_or at e 0 < length (nth_run lists (get_or run e 0)))
      × (get_or (nth_run lists (get_or run e 0)) (get_or at e 0) 0 ≡ e)
  there e l ne = elim (sent_or_not onward e (suc on.last)) [
    | inl t ↦
        grind (arith, common_steps, on.told.told t.0 t.1, walk_at onward on.last t.0 t.1, walk_long onward on.last)
    | inr other ↦ grind (arith, common_steps, on.told.kept e other, so.found.there e l)
  ]

  all : (e : ℕ) → e < d + 1 → get_or run e 0 ≢ NONE
  all e l none =
      let (k, h, t) = d_stands m low back on in
      search (rules, kept_at)

  pub one_more : AreRunsSoFar faces (d + 1) run at (len ++ line.len ∷ []) (closed ++ line.closed ∷ [])
  one_more = record {
    lists = lists;
    few = omega (arith, long, so.few);
    found = record {
      runs = λ r l. grind (arith, place r l, so.found.runs r, longest m low back on);
      least = λ r k l c h.
          let begin = first_at m low back on in
          let same = closed_is m low back on in
          grind (arith, place r l, so.found.least r k, begin, same, closed_at m low back on, list_high k, c, h);
      increasing = λ q r less l.
          let before = so.found.below q in
          grind (arith, place q (omega arith), place r l, so.found.increasing q r, before, list_high);
      below = λ r l.
          let at = walk_at onward on.last in
          grind (arith, place r l, so.found.below r, d_stands m low back on, at, walk_long onward on.last);
      told = λ r k l h. grind (arith, place r l, told_old r, told_new k, h);
      there = there;
      all = all;
    };
    run_long = run_long ∙ so.run_long;
    at_long = at_long ∙ so.at_long;
    lengths = rw (so.lengths, map-append length so.lists (new ∷ []), walk_long onward on.last, on.long) refl;
    closes = rw (so.closes, map-append (is_closed faces) so.lists (new ∷ []), closed_is m low back on) refl;
  }

-- Where d has its number, its run is found already.
pub passed_by : {faces : Faces} {d : ℕ} {run at len : List ℕ} {closed : List Bool} → get_or run d 0 ≢ NONE
    → AreRunsSoFar faces d run at len closed → AreRunsSoFar faces (d + 1) run at len closed
passed_by {d} {run} old so = record {
  lists = so.lists;
  few = omega (arith, so.few);
  found =
      let below : (r : ℕ) → r < length so.lists → (k : ℕ) × (k < length (nth_run so.lists r))
      × (get_or (nth_run so.lists r) k 0 < d + 1) = λ r l. grind (arith, so.found.below r l) in
      search rules;
  run_long = so.run_long;
  at_long = so.at_long;
  lengths = so.lengths;
  closes = so.closes;
}

-- No run is found at first.
pub none_found : (faces : Faces) (run at : List ℕ) → run ≡ replicate (darts faces) NONE → at ≡ replicate (darts faces) 0
    → AreRunsSoFar faces 0 run at [] []
none_found faces run at is_run is_at = search (rules, get_or-replicate, length-replicate)

-- Tables that have an entry for each face or vertex.

module _ (faces : Faces) where
  pub numbers_long : {numbers : List ℕ} → numbers ≡ component_numbers faces → length numbers ≡ length faces
  numbers_long are = simp (are, length-map, length-range_with_len)

  pub kinds_long : {kinds : List Kind} → kinds ≡ map (kind_of faces) (all_vertices faces)
      → length kinds ≡ vertex_count faces
  kinds_long are = simp (are, length-map, length-range_with_len)

  -- The number of a dart's component is one of them.
  pub number_there : IsManifold faces → {numbers : List ℕ} → numbers ≡ component_numbers faces → {d : ℕ}
      → d < darts faces → get_or numbers (d / 4) 0 < length (least_faces faces)
  number_there manifold {numbers} are {d} low = omega (arith, number_read _ _ d are, number_low manifold d low)
