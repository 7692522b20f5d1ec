-- Sums over what is marked: of two lists in a row, of edges to copies, and of the chain at the rim, where each vertex
-- that waits gets a mate, and so do all fresh vertices.
use Rattle.std.proofs.Common.{rules, ◌≡◌, ℕ, zero, suc, ◌+◌, ◌<◌, ◌≤◌, Bool, true, false, cond, List, [], ◌∷◌, ◌++◌}
use Rattle.std.proofs.Common.{length, map, get_or, ℤ, pos, ◌+ℤ◌, refl, ◌∙◌, ap, add-zero, zero-add, arith, ◌-◌, ◌*◌}
use Rattle.std.proofs.Common.{◌%◌, Option, Some, None, ◌&&◌, take, drop, ◌*ℤ◌, inl, inr, length-append}
use Rattle.def_flow.specs.MatchingGraph.{link, fan, to_copies, rim_links, inner_link, are_alike, links_by, unit_links}
use Rattle.def_flow.specs.{MatchingGraph.unit_size, MatchingGraph.units_links, declared.net.End.End, Network.EndsBelow}
use Rattle.gadget_laws.specs.Marks.{choice, places, end_marks, trues, differ, rim_marks}
use Rattle.def_math.specs.{Sums.total, Sums.span, Increasing.IsIncreasing, Counts.count_below}
use Rattle.def_matching.specs.{Matching.WeightedGraph, Matching.edge_at, declared.weighted.WEdge.WEdge}
use Rattle.{std.proofs.lemmas.Bool.cases_Bool, sum_laws.proofs.Sums.integers, qm_dual.proofs.Gathered.plus_times}
use Rattle.{def_flow.specs.declared.units.ArcUnit.ArcUnit, gadget_laws.specs.Told.width_by}

-- The sum of f over what is marked.
abbrev pub picked : {X : Type 0} → (X → ℤ) → List Bool → List X → ℤ
picked f (m ∷ ms) (x ∷ xs) = cond m (f x) (pos 0) +ℤ picked f ms xs
picked f _ _ = pos 0

-- Two lists in a row, with as many marks.
pub pick_append : {X : Type 0} (f : X → ℤ) (ms ns : List Bool) (xs ys : List X) → length ms ≡ length xs
    → picked f (ms ++ ns) (xs ++ ys) ≡ picked f ms xs +ℤ picked f ns ys
pick_append f [] ns [] ys e = omega integers
pick_append f (m ∷ ms) ns (x ∷ xs) ys e = let l : length ms ≡ length xs = omega arith in
    omega (integers, pick_append f ms ns xs ys l)
pick_append f _ ns _ ys e = absurd (omega arith)

pub choice_length : (some : Bool) (i n : ℕ) → length (choice some i n) ≡ n
choice_length some i zero = refl
choice_length some zero (suc n) = omega (arith, choice_length false zero n)
choice_length some (suc i) (suc n) = omega (arith, choice_length some i n)

pub fan_length : (u : ℕ) (c : ℤ) (a n : ℕ) → length (fan u c a n) ≡ n
fan_length u c a zero = refl
fan_length u c a (suc n) = omega (arith, fan_length u c (a + 1) n)

pub end_length : (copies_at used : ℕ → ℕ) (some : Bool) (e : End) (b : ℕ) (c : ℤ)
    → length (end_marks copies_at used some e) ≡ length (to_copies copies_at b c e)
end_length copies_at used some e b c = omega (arith, choice_length, fan_length)

-- Of a fan with at most one mark one edge is picked, or none.
pick_choice : (f : WEdge → ℤ) (some : Bool) (i n u : ℕ) (c : ℤ) (a : ℕ) → (some ≡ true → i < n)
    → picked f (choice some i n) (fan u c a n) ≡ cond some (f (link u (a + i) c)) (pos 0)
pick_choice f true i zero u c a low = absurd (omega (arith, low refl))
pick_choice f false i zero u c a low = refl
pick_choice f some zero (suc n) u c a low =
    rw (add-zero a) (omega (integers, pick_choice f false zero n u c (a + 1) (λ e. cc e)))
pick_choice f some (suc i) (suc n) u c a low =
    search (rules, pick_choice f some i n u c (a + 1) (λ e. omega (arith, low e)))

-- Of the edges to the copies of an end's node one is picked, or none.
abbrev pub end_value : (f : WEdge → ℤ) (copies_at used : ℕ → ℕ) (some : Bool) (b : ℕ) (c : ℤ) (e : End) → ℤ
end_value f copies_at used some b c e =
    cond some (f (link b (count_below copies_at e.node + used e.node) (cond e.plus c (pos 0)))) (pos 0)

pub pick_end : (f : WEdge → ℤ) (copies_at used : ℕ → ℕ) (some : Bool) (e : End) (b : ℕ) (c : ℤ)
    → (some ≡ true → used e.node < copies_at e.node)
    → picked f (end_marks copies_at used some e) (to_copies copies_at b c e) ≡ end_value f copies_at used some b c e
pick_end f copies_at used some e b c free = pick_choice f some (used e.node) (copies_at e.node) b _ _ free

-- The places rise.
pub places_rise : (low k end : ℕ) (ms : List Bool) → low ≤ k → k + length ms ≤ end → IsIncreasing low end (places k ms)
places_rise low k high [] from le = tt
places_rise low k high (true ∷ ms) from le =
    (from, omega arith, places_rise (k + 1) (k + 1) high ms (omega arith) (omega arith))
places_rise low k high (false ∷ ms) from le = places_rise low (k + 1) high ms (omega arith) (omega arith)

-- The sum along what stands at the places of the marks is what is picked.
at_places : {X : Type 0} (h : ℕ → X) (d : X) (f : X → ℤ) (k : ℕ) (ms : List Bool) (xs : List X) → length ms ≡ length xs
    → ((j : ℕ) → h (k + j) ≡ get_or xs j d) → total f (map h (places k ms)) ≡ picked f ms xs
at_places h d f k (m ∷ ms) (x ∷ xs) l same =
    let here = rw add-zero at (same 0) in
    let rest = at_places h d f (k + 1) ms xs (omega arith)
    (λ j. (let e : k + 1 + j ≡ k + suc j = omega arith in ap h e ∙ same (suc j))) in
    grind integers
at_places h d f k _ _ l same = omega integers

pub chosen_sum : (g : WeightedGraph) (f : WEdge → ℤ) (ms : List Bool) → length ms ≡ length g.edges
    → total f (map (edge_at g) (places 0 ms)) ≡ picked f ms g.edges
chosen_sum g f ms l = at_places _ _ f 0 ms _ l (λ j. ap (edge_at g) (zero-add j))

-- What an edge weighs: the weights of its ends.
abbrev pub at_ends : (ℕ → ℤ) → WEdge → ℤ
at_ends w e = w e.u +ℤ w e.v

-- How many fresh vertices the rim has.
abbrev pub pairs : ℕ → ℕ
pairs m = 2 * (m - 1)

-- Whether the vertex before is there where it waits.
abbrev pub IsThere : Option ℕ → Bool → Type 0
IsThere None waits = waits ≡ false
IsThere (Some b) waits = Unit {0}

abbrev pub waiting : (ℕ → ℤ) → Option ℕ → Bool → ℤ
waiting w None waits = pos 0
waiting w (Some b) waits = cond waits (w b) (pos 0)

-- Two fresh vertices more.
two_more : (w : ℕ → ℤ) (fresh n : ℕ) → span w fresh (pairs (suc (suc n)))
    ≡ w fresh +ℤ (w (fresh + 1) +ℤ span w (fresh + 2) (pairs (suc n)))
two_more w fresh n = let more : pairs (suc (suc n)) ≡ suc (suc (pairs (suc n))) = omega arith in search rules

-- What is picked at the rim weighs what waits and what is fresh.
pub chain_sum : (w : ℕ → ℤ) (before : Option ℕ) (waits : Bool) (fresh : ℕ) (rs : List ℕ) (os : List Bool)
    → length os ≡ length rs → IsThere before waits → (cond waits 1 0 + trues os) % 2 ≡ 0
    → picked (at_ends w) (rim_marks before waits fresh os) (rim_links before fresh rs)
    ≡ waiting w before waits +ℤ (picked w os rs +ℤ span w fresh (pairs (length rs)))
chain_sum w before waits fresh [] [] l there even = grind integers
chain_sum w before waits fresh (r ∷ []) (o ∷ []) l there even = grind integers
chain_sum w before waits fresh (r ∷ s ∷ rs) (o ∷ p ∷ os) l there even =
    step before waits o there (chain_sum w (Some (fresh + 1)) (differ waits o) (fresh + 2) (s ∷ rs) (p ∷ os)
    (omega arith) tt (grind arith))
  where
    step : (before : Option ℕ) (waits o : Bool) → IsThere before waits
        → picked (at_ends w) (rim_marks (Some (fresh + 1)) (differ waits o) (fresh + 2) (p ∷ os))
        (rim_links (Some (fresh + 1)) (fresh + 2) (s ∷ rs)) ≡ waiting w (Some (fresh + 1)) (differ waits o) +ℤ
        (picked w (p ∷ os) (s ∷ rs) +ℤ span w (fresh + 2) (pairs (length (s ∷ rs))))
        → picked (at_ends w) (rim_marks before waits fresh (o ∷ p ∷ os)) (rim_links before fresh (r ∷ s ∷ rs)) ≡ waiting
        w before waits +ℤ (picked w (o ∷ p ∷ os) (r ∷ s ∷ rs) +ℤ span w fresh (pairs (length (r ∷ s ∷ rs))))
    step None waits true there more = rw there (omega (integers, two_more w fresh (length rs), rw there at more))
    step None waits false there more = rw there (omega (integers, two_more w fresh (length rs), rw there at more))
    step (Some b) true true there more = omega (integers, two_more w fresh (length rs), more)
    step (Some b) true false there more = omega (integers, two_more w fresh (length rs), more)
    step (Some b) false true there more = omega (integers, two_more w fresh (length rs), more)
    step (Some b) false false there more = omega (integers, two_more w fresh (length rs), more)
chain_sum w before waits fresh _ _ l there even = first_of (omega integers, cc)

-- There are as many marks as edges.
pub rim_length : (before : Option ℕ) (waits : Bool) (fresh : ℕ) (rs : List ℕ) (os : List Bool) → length os ≡ length rs
    → length (rim_marks before waits fresh os) ≡ length (rim_links before fresh rs)
rim_length before waits fresh [] [] l = refl
rim_length None waits fresh (r ∷ []) (o ∷ []) l = refl
rim_length (Some b) waits fresh (r ∷ []) (o ∷ []) l = refl
rim_length _ waits fresh (r ∷ s ∷ rs) (o ∷ p ∷ os) l =
    omega (arith, rim_length (Some (fresh + 1)) (differ waits o) (fresh + 2) (s ∷ rs) (p ∷ os) (omega arith))
rim_length before waits fresh _ _ l = absurd (omega arith)

-- What any marks pick: of two lists in a row, of one edge, of a fan, of a unit's edges.

-- The first mark.
abbrev pub head_mark : List Bool → Bool
head_mark [] = false
head_mark (m ∷ ms) = m

pub no_pick : {X : Type 0} (f : X → ℤ) (ms : List Bool) → picked f ms [] ≡ pos 0
no_pick f [] = refl
no_pick f (m ∷ ms) = refl

pub pick_split : {X : Type 0} (f : X → ℤ) (ms : List Bool) (xs ys : List X) → picked f ms (xs ++ ys)
    ≡ picked f ms xs +ℤ picked f (drop (length xs) ms) ys
pick_split f ms [] ys = omega (integers, no_pick f ms)
pick_split f [] (x ∷ xs) ys = refl
pick_split f (m ∷ ms) (x ∷ xs) ys = omega (integers, pick_split f ms xs ys)

pick_last : {X : Type 0} (f : X → ℤ) (ms : List Bool) (x : X) → picked f ms (x ∷ []) ≡ cond (head_mark ms) (f x) (pos 0)
pick_last f [] x = refl
pick_last f (m ∷ ms) x = omega (integers, no_pick f ms)

-- Of a fan whose edges are all worth s, s for each marked one.
fan_pick : (f : WEdge → ℤ) (ms : List Bool) (u : ℕ) (c : ℤ) (a n : ℕ) (s : ℤ)
    → ((i : ℕ) → i < n → f (link u (a + i) c) ≡ s) → picked f ms (fan u c a n) ≡ pos (trues (take n ms)) *ℤ s
fan_pick f ms u c a zero s each = omega (integers, no_pick f ms)
fan_pick f [] u c a (suc n) s each = omega integers
fan_pick f (m ∷ ms) u c a (suc n) s each =
    let here : f (link u a c) ≡ s = rw add-zero at (each 0 (omega arith)) in
    let rest = fan_pick f ms u c (a + 1) n s
    (λ i l. (let e : a + 1 + i ≡ a + suc i = omega arith in rw e (each (suc i) (omega arith)))) in
    grind (integers, plus_times 1 (trues (take n ms)) s, plus_times 0 (trues (take n ms)) s)

-- A unit has as many edges as its width says.
pub links_width : (copies_at : ℕ → ℕ) (b : ℕ) (c : ℤ) (left : End) (right : Option End)
    → length (links_by copies_at b c left right) ≡ width_by copies_at left right
links_width copies_at b = search (rules, length-append, fan_length)

-- What is picked at units is what is picked at the first one, and past its edges at the others.
pub pick_units : (f : WEdge → ℤ) (copies_at : ℕ → ℕ) (b : ℕ) (u : ArcUnit) (us : List ArcUnit) (ms : List Bool)
    → picked f ms (units_links copies_at b (u ∷ us)) ≡ picked f ms (unit_links copies_at b u) +ℤ picked f
    (drop (width_by copies_at u.left u.right) ms) (units_links copies_at (b + unit_size u) us)
pick_units f copies_at b u us ms = search (rules, links_width, pick_split)

-- How many edges of the first end, and of the second, are marked, and whether the inner one is.
abbrev pub left_marks : (ℕ → ℕ) → List Bool → End → ℕ
left_marks copies_at ms left = trues (take (copies_at left.node) ms)

abbrev pub right_marks : (ℕ → ℕ) → List Bool → End → Option End → ℕ
right_marks copies_at ms left None = 0
right_marks copies_at ms left (Some right) = trues (take (copies_at right.node) (drop (copies_at left.node) ms))

abbrev pub inner_mark : (ℕ → ℕ) → List Bool → End → Option End → Bool
inner_mark copies_at ms left None = head_mark (drop (copies_at left.node) ms)
inner_mark copies_at ms left (Some right) =
    are_alike left right && head_mark (drop (copies_at right.node) (drop (copies_at left.node) ms))

-- What an edge of the second end is worth, where s is what one is worth by its vertex, cost and end.
abbrev pub right_worth : (s : ℕ → ℤ → End → ℤ) (b : ℕ) (c : ℤ) (left : End) (right : Option End) → ℤ
right_worth s b c left None = pos 0
right_worth s b c left (Some right) = cond (are_alike left right) (s (b + 1) (pos 0) right) (s b c right)

-- Where f is worth s at the edges to copies.
module _ (f : WEdge → ℤ) (nodes : ℕ) (copies_at : ℕ → ℕ) (s : ℕ → ℤ → End → ℤ)
    (worth : (u : ℕ) (d : ℤ) (e : End) → e.node < nodes → (i : ℕ) → i < copies_at e.node
    → f (link u (count_below copies_at e.node + i) (cond e.plus d (pos 0))) ≡ s u d e) where
  end_pick : (b : ℕ) (c : ℤ) (e : End) (ms : List Bool) (es : List WEdge) → e.node < nodes
      → picked f ms (to_copies copies_at b c e ++ es)
      ≡ pos (trues (take (copies_at e.node) ms)) *ℤ s b c e +ℤ picked f (drop (copies_at e.node) ms) es
  end_pick b c e ms es at = search (rules, fan_length, pick_split, fan_pick)

  -- What is picked at a unit.
  pub unit_pick : (b : ℕ) (c : ℤ) (left : End) (right : Option End) (ms : List Bool) → EndsBelow nodes left right
      → picked f ms (links_by copies_at b c left right) ≡ pos (left_marks copies_at ms left) *ℤ s b c left +ℤ (pos
      (right_marks copies_at ms left right) *ℤ right_worth s b c left right +ℤ cond (inner_mark copies_at ms left right)
      (f (inner_link b c left)) (pos 0))
  unit_pick b c left None ms at = omega (
    integers,
    end_pick b c left ms (inner_link b c left ∷ []) at,
    pick_last f (drop (copies_at left.node) ms) (inner_link b c left),
  )
  unit_pick b c left (Some right) ms at =
      let past = drop (copies_at left.node) ms in
      elim (cases_Bool (are_alike left right)) [
        | inl e ↦ rw e (omega (
          integers,
          end_pick b c left ms (to_copies copies_at (b + 1) (pos 0) right ++ inner_link b c left ∷ []) at.0,
          end_pick (b + 1) (pos 0) right past (inner_link b c left ∷ []) at.1,
          pick_last f (drop (copies_at right.node) past) (inner_link b c left),
        ))
        | inr e ↦ rw e (omega (
          integers,
          end_pick b c left ms (to_copies copies_at b c right) at.0,
          fan_pick f past b _ _ _ _ (worth b c right at.1),
        ))
      ]
