-- The edges that are chosen in the end, as a list. Where all blossoms are matched, they are a perfect matching, and
-- twice its cost is the sum.
use Rattle.std.proofs.Common.{rules, ◌≡◌, ℕ, suc, ◌+◌, ◌*◌, ◌<◌, ◌≤◌, Bool, true, false, cond, ◌&&◌, List, [], ◌∷◌}
use Rattle.std.proofs.Common.{◌++◌, map, length, get_or, replicate, Option, None, Result, Ok, Err, IfOk, refl, sym, ◌∙◌}
use Rattle.std.proofs.Common.{ap, inl, inr, arith, ◌≢◌, ℤ, pos, ◌*ℤ◌, add-one}
use Rattle.std.proofs.{lemmas.Grind.common_steps, lemmas.Int.ints, lemmas.Bool.cases_eq, lemmas.Bool.cases_lt}
use Rattle.std.proofs.{lemmas.List.get_or_append_left, lemmas.List.get_or_push}
use Rattle.def_math.specs.{Counts.count, Counts.count_below, Increasing.IsIncreasing, Sums.total}
use Rattle.sum_laws.proofs.Sums.{count_append, count_below_none, count_below_same, total_below_same, two_orders}
use Rattle.def_matching.specs.Matching.{WeightedGraph, edge_at, ends_at, IsPerfect, matching_cost}
use Rattle.def_matching.specs.{Dual.crosses, declared.weighted.WEdge.WEdge}
use Rattle.def_forest.specs.Forests.{bool_number, splits, Forest, IsTight, dual_sum_of, weight_between, walk}
use Rattle.def_forest.specs.{Tables.ForestTables, Tables.forest_of, Tables.MatchesBut, Darts.darts_of}
use Rattle.forest_laws.proofs.Bounds.{dart_near, near_odd, dart_far, dart_cost, just_once}
use Rattle.qm_forest.specs.Rounds.{IsSoundFor, AreMarked, IsLaminar, IsRound, leaving, waits_but, matched_by}
use Rattle.qm_forest.proofs.{Fresh.same_everywhere, Withins.another, MateRounds.due_one, MateRounds.due_same}

-- An increasing list with one number more at its end.
pub increasing_more : (low bound : ℕ) (xs : List ℕ) → low ≤ bound → IsIncreasing low bound xs
    → IsIncreasing low (bound + 1) (xs ++ bound ∷ [])
increasing_more low bound [] le increasing = (le, omega arith, tt)
increasing_more low bound (x ∷ xs) le increasing =
    (increasing.0, omega arith, increasing_more (x + 1) bound xs (omega arith) increasing.2)

pub increasing_higher : (low bound : ℕ) (xs : List ℕ) → IsIncreasing low bound xs → IsIncreasing low (bound + 1) xs
increasing_higher low bound [] increasing = tt
increasing_higher low bound (x ∷ xs) increasing = search (rules, increasing_higher (x + 1) bound xs increasing.2)

-- One place more, with a mark or without.
pub marked_more : {marks : List Bool} {e : ℕ} {xs : List ℕ} → get_or marks e false ≡ true → AreMarked marks e xs
    → AreMarked marks (e + 1) (xs ++ e ∷ [])
marked_more {marks} {e} {xs} on are = record {
  increasing = increasing_more 0 e xs (omega arith) are.increasing;
  each = λ k l. grind (arith, common_steps);
  counts = λ f. (grind (arith, count_append f xs (e ∷ []), are.counts f));
}

pub marked_same : {marks : List Bool} {e : ℕ} {xs : List ℕ} → get_or marks e false ≡ false → AreMarked marks e xs
    → AreMarked marks (e + 1) xs
marked_same {marks} {e} {xs} off are = record {
  increasing = increasing_higher 0 e xs are.increasing;
  each = are.each;
  counts = λ f. grind (arith, are.counts f, ap (count_below (λ k. cond (get_or marks k false) (f k) 0)) (add-one e));
}

-- Nothing is chosen, and nothing waits.
pub round_begins : (t : ForestTables) {marks : List Bool} {left : List (Option ℕ)} (m size : ℕ) (rest : ℕ → ℕ)
    → marks ≡ replicate m false → left ≡ replicate size None → ((v : ℕ) → v < length t.hand → rest v ≤ 1)
    → IsRound t marks left rest rest
round_begins t {marks} {left} m size rest marks_is left_is once = search (rules, count_below_none, same_everywhere)

-- What follows for what was made from two things that hold of it.
pub if_both : {X E : Type 0} {P Q R : X → Type 0} (r : Result X E) → IfOk r P → IfOk r Q → ((x : X) → P x → Q x → R x)
    → IfOk r R
if_both (Ok x) p q both = both x p q
if_both (Err e) p q both = tt

-- Where nothing waits, each blossom is left as often as is due.
pub round_ends : {t : ForestTables} {marks : List Bool} {left : List (Option ℕ)} {due : ℕ → ℕ} → IsRound t marks left
    (λ b. 0) due → ((c : ℕ) → get_or left c None ≡ None) → (b : ℕ) → b < length t.up → leaving t marks b ≡ due b
round_ends {t} {left} round ended b l = search (rules, count_below_none)

pub count_map : {X : Type 0} (f : X → ℕ) (h : ℕ → X) (xs : List ℕ) → count f (map h xs) ≡ count (λ k. f (h k)) xs
count_map f h [] = refl
count_map f h (x ∷ xs) = ap (λ m. f (h x) + m) (count_map f h xs)

and_number : (p q : Bool) → bool_number (p && q) ≡ cond p (bool_number q) 0
and_number p q = grind arith

-- A blossom without weight adds nothing.
none_added : (s : ℕ → Bool) {z : ℤ} (es : List WEdge) → z ≡ pos 0
    → total (λ (e : WEdge). cond (crosses s e) z (pos 0)) es ≡ pos 0
none_added s [] zero' = refl
none_added s (e ∷ es) zero' = grind (arith, ints, none_added s es zero')

-- The loads of tight edges are twice their costs.
loads_exact : (g : WeightedGraph) (f : Forest) (xs : List ℕ)
    → ((k : ℕ) → k < length xs → IsTight (darts_of g) f (2 * get_or xs k 0))
    → total (λ (e : WEdge). weight_between f e.u e.v) (map (edge_at g) xs) ≡ pos 2 *ℤ matching_cost g xs
loads_exact g f [] tight = omega (arith, ints)
loads_exact g f (x ∷ xs) tight =
    let rest = loads_exact g f xs (λ k l. tight (suc k) (omega arith)) in
    grind (arith, ints, (tight 0 (omega arith)).exact, dart_near g x, dart_far g x, dart_cost g x)

module _ {t : ForestTables} (known : IsLaminar t) {g : WeightedGraph} (valid : IsSoundFor g t) {marks : List Bool}
    (size : length t.near ≡ 2 * length marks) {list : List ℕ} (are : AreMarked marks (length marks) list) where
  abbrev f : Forest
  f = forest_of t

  -- An edge leaves a blossom, once or not.
  abbrev leaves : ℕ → ℕ → ℕ
  leaves b e = bool_number (splits (f.holds b) (edge_at g e).u (edge_at g e).v)

  edges_is : length marks ≡ length g.edges
  edges_is = omega arith

  increasing : IsIncreasing 0 (length g.edges) list
  increasing = rw edges_is at are.increasing

  -- Edges that leave a blossom, along the list.
  leaving_listed : (b : ℕ) → leaving t marks b ≡ count (leaves b) list
  leaving_listed b = count_below_same _ _ _ (λ e l. (let near = valid.ends (2 * e) (omega arith) ∙ dart_near g e in
      let far = valid.ends (2 * e + 1) (omega arith) ∙ near_odd g _ e refl in
      rw (near, far) (and_number _ _))) ∙ sym (are.counts (leaves b))

  -- A vertex is met as often as it is left.
  met_as_left : (w : ℕ) → w < length t.hand → count (ends_at w) (map (edge_at g) list) ≡ leaving t marks w
  met_as_left w lw = sym (leaving_listed w ∙ (counted 0 list increasing ∙ sym (count_map _ _ list)))
    where
      counted : (low : ℕ) (xs : List ℕ) → IsIncreasing low (length g.edges) xs
          → count (leaves w) xs ≡ count (λ e. ends_at w (edge_at g e)) xs
      counted low [] r = refl
      counted low (x ∷ xs) r = search (rules, counted (x + 1) xs r.2)

  -- The edges match all vertices of a blossom but one.
  pub matches_but : {left : List (Option ℕ)} (b v : ℕ) → v < length t.hand → IsRound t marks left (λ c. 0)
      (λ c. waits_but t c b v + 0) → ((c : ℕ) → get_or left c None ≡ None) → MatchesBut g f b v list
  matches_but b v lv round ended = record {
    increasing = increasing;
    tight = λ k l. round.tight g valid _ (are.each k l);
    once = search (rules, met_as_left, round_ends);
  }

  module _ {left : List (Option ℕ)} (round : IsRound t marks left (λ b. 0) (matched_by t (length marks)))
      (ended : (c : ℕ) → get_or left c None ≡ None) (matched : (v : ℕ) → v < g.n → f.mate (f.out v) ≢ None) where
    due : (w : ℕ) → w < length t.hand → matched_by t (length marks) w ≡ 1
    due w l = due_one known valid w l edges_is (matched w (rw valid.vertices at l))

    abbrev es : List WEdge
    es = map (edge_at g) list

    abbrev adds : ℕ → WEdge → ℤ
    adds b e = cond (crosses (f.holds b) e) (f.weight b) (pos 0)

    counted : (b : ℕ) → b < f.size → matched_by t (length marks) b ≡ 1 → f.weight b ≡ total (adds b) es
    counted b l one = sym (just_once (f.holds b) _ es (search (rules, count_map, leaving_listed, round_ends)))

    -- The edges are a perfect matching, and the sum of the weights is the sum of the loads.
    pub perfect : IsPerfect g list × (dual_sum_of f ≡ pos 2 *ℤ matching_cost g list)
    perfect =
        let once : (w : ℕ) → w < g.n → count (ends_at w) es ≡ 1 = λ w lw. (let low : w < length t.hand =
        rw valid.vertices lw in met_as_left w low ∙ (round_ends round ended w (omega arith) ∙ due w low)) in
        let sum = total_below_same _ (λ b. total (adds b) es) f.size (λ b l. elim (cases_lt b (length t.hand)) [
          | inl low ↦ counted b l (due b low)
          | inr high ↦ elim (cases_eq (get_or t.parts b 0) 0) [
            | inl dead ↦ (let z = valid.valid.nested.weightless b (rw valid.vertices at high) dead in
                z ∙ sym (none_added (f.holds b) es z))
            | inr live ↦ (let w = another known valid b 0 high l live in
                counted b l (due_same known valid b w.0 _ w.1 w.3 ∙ due w.0 w.1))
          ]
        ]) in (
          record { increasing = increasing; once = once },
          sum ∙ (sym (two_orders adds f.size es) ∙ loads_exact g f list (λ k l. round.tight g valid _ (are.each k l))),
        )

-- The list that the vertices of a blossom are copied to.

-- One vertex more.
pub copied_more : (list : List ℕ) {pushed : List ℕ} (next : ℕ → ℕ) (from : ℕ) {k v : ℕ} → pushed ≡ list ++ v ∷ []
    → length list ≡ k → v ≡ walk next from k → ((j : ℕ) → j < k → get_or list j 0 ≡ walk next from j) → (j : ℕ)
    → j < k + 1 → get_or pushed j 0 ≡ walk next from j
copied_more list next from {v = v} is size here each j l
    = (grind (arith, get_or_append_left list (v ∷ []) 0 j, get_or_push list v 0 j, each j))
