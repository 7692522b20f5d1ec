-- The flood of a component is exact: it marks just the faces to which chains of shared edges lead.
use Rattle.std.proofs.Common.{rules, ◌≡◌, ◌⊎◌, ℕ, zero, suc, ◌*◌, ◌<◌, ◌≤◌, Bool, true, false, not, cond, eqb, ◌&&◌}
use Rattle.std.proofs.Common.{◌||◌, map, length, sym, subst, ap, ◌∙◌, refl, inl, inr, arith, List, [], ◌∷◌, get_or}
use Rattle.std.proofs.{lemmas.Bool.false≢true, lemmas.Bool.not_from_false, lemmas.List.length-map}
use Rattle.std.proofs.{lemmas.List.Sums.passes_at_first, lemmas.List.Sums.fails_before_first}
use Rattle.std.proofs.lemmas.Bool.{eq-eqb, eqb-true, cases_Bool, or_left, or_right, or_cases, and_parts, and_from}
use Rattle.std.proofs.lemmas.List.FromFn.{length-range_with_len, get_or-map-range_with_len}
use Rattle.sum_laws.proofs.Sums.{count_below_lt, count_below_le, count_below_ones}
use Rattle.list_laws.proofs.Filters.{any_in_range, range_any, map_range_same}
use Rattle.def_mesh.specs.Components.{share_edge, is_marked, within, component_of, least_face}
use Rattle.def_mesh.specs.Darts.{from_of, to_of, is_reverse, darts, all_darts}
use Rattle.def_mesh.specs.Vertices.{above_all, vertex_count, faces_at}
use Rattle.{std.proofs.lemmas.List.Filters.length-filter_both, std.specs.List.list_any, std.specs.List.range_with_len}
use Rattle.{std.specs.List.position_or_len, sum_laws.proofs.Tests.once_at_most, def_math.specs.Counts.count_below}
use Rattle.{def_mesh.specs.Faces.Faces, def_mesh.specs.Faces.all_faces}

-- So many shared edges lead from face f to face g.
abbrev pub Shares : (faces : Faces) (f g edges : ℕ) → Type 0
Shares faces f g zero = f ≡ g
Shares faces f g (suc n) = (h : ℕ) × Shares faces f h n × (h < length faces) × (g < length faces)
    × (share_edge faces h g ≡ true)

-- Faces share an edge both ways.
pub share_back : (faces : Faces) (f g : ℕ) → share_edge faces f g ≡ true → share_edge faces g f ≡ true
share_back faces f g s =
    let p = range_any (λ d. list_any (is_reverse faces d) (range_with_len (4 * g) 4)) (4 * f) 4 s in
    let d = p.0 in
    let q = range_any (is_reverse faces d) (4 * g) 4 p.3 in
    let e = q.0 in
    let r = and_parts (eqb (from_of faces e) (to_of faces d)) (eqb (to_of faces e) (from_of faces d)) q.3 in
    any_in_range (λ x. list_any (is_reverse faces x) (range_with_len (4 * f) 4)) (4 * g) 4 e q.1 q.2
    (any_in_range (is_reverse faces e) (4 * f) 4 d p.1 p.2 (search rules))

module _ (faces : Faces) where
  pub shares_join : (f g h n m : ℕ) → Shares faces f g n → Shares faces g h m → (k : ℕ) × Shares faces f h k
  shares_join f g h n zero a b = (n, subst (λ (x : ℕ). Shares faces f x n) b a)
  shares_join f g h n (suc m) a b = let j = shares_join f g b.0 n m a b.1 in (suc j.0, (b.0, j.1, b.2, b.3, b.4))

  pub shares_back : (f g n : ℕ) → f < length faces → Shares faces f g n → (k : ℕ) × Shares faces g f k
  shares_back f g zero l s = (0, sym s)
  shares_back f g (suc n) l s =
      let b = shares_back f s.0 n l s.1 in
      shares_join g s.0 f 1 b.0 (g, refl, s.3, s.2, share_back faces s.0 g s.4) b.1

  -- What the marks of a round are, by those of the round before.
  abbrev pub mark : (f k g : ℕ) → Bool
  mark f k g = is_marked (within faces f k) g

  pub first_mark : (f g : ℕ) → g < length faces → mark f 0 g ≡ eqb g f
  first_mark f g l = get_or-map-range_with_len (λ x. eqb x f) 0 (length faces) g g false l (omega arith)

  pub next_mark : (f k g : ℕ) → g < length faces → mark f (suc k) g
      ≡ (mark f k g || list_any (λ h. mark f k h && share_edge faces h g) (all_faces faces))
  next_mark f k g l = search (rules, get_or-map-range_with_len)

  grows : (f k g : ℕ) → g < length faces → mark f k g ≡ true → mark f (suc k) g ≡ true
  grows f k g l m = next_mark f k g l ∙ or_left _ _ m

  reaches : (f k h g : ℕ) → h < length faces → g < length faces → mark f k h ≡ true → share_edge faces h g ≡ true
      → mark f (suc k) g ≡ true
  reaches f k h g lh lg m s = next_mark f k g lg ∙ or_right _ _ (any_in_range (λ x. mark f k x && share_edge faces x g)
      0 (length faces) h (omega arith) (omega arith) (and_from _ _ m s))

  next_from : (f k g : ℕ) → g < length faces → mark f (suc k) g ≡ true → (mark f k g ≡ true)
      ⊎ ((h : ℕ) × (h < length faces) × (mark f k h ≡ true) × (share_edge faces h g ≡ true))
  next_from f k g l m = elim (or_cases _ _ (sym (next_mark f k g l) ∙ m)) [
    | inl old ↦ inl old
    | inr new ↦ search (rules, range_any)
  ]

  -- Each mark has a chain.
  pub sound : (f k g : ℕ) → f < length faces → g < length faces → is_marked (within faces f k) g ≡ true
      → (n : ℕ) × Shares faces f g n
  sound f zero g lf lg m = (0, sym (eqb-true g f (sym (first_mark f g lg) ∙ m)))
  sound f (suc k) g lf lg m =
      let rest = sound f k in
      elim (next_from f k g lg m) [
        | inl old ↦ rest g lf lg old
        | inr h ↦ let c = rest h.0 lf h.1 h.2 in (suc c.0, (h.0, c.1, h.1, lg, h.3))
      ]

  -- A round that marks nothing new is the last, and each round before it marks a face more.
  abbrev size : (f k : ℕ) → ℕ
  size f k = count_below (λ g. cond (mark f k g) 1 0) (length faces)

  abbrev IsStable : (f k : ℕ) → Type 0
  IsStable f k = (g : ℕ) → g < length faces → mark f (suc k) g ≡ true → mark f k g ≡ true

  stays_stable : (f k : ℕ) → IsStable f k → IsStable f (suc k)
  stays_stable f k stable g l m = elim (next_from f (suc k) g l m)
      [ inl old ↦ old | inr h ↦ reaches f k h.0 g h.1 l (stable h.0 h.1 h.2) h.3 ]

  stable_or_more : (f k : ℕ) → f < length faces → IsStable f k ⊎ (suc k ≤ size f k)
  stable_or_more f zero lf =
      let more = count_below_lt (λ g. 0) (λ g. cond (mark f 0 g) 1 0) (length faces) f lf (λ k l. omega arith)
      (search (rules, first_mark)) in
      search rules
  stable_or_more f (suc k) lf =
      let is_new = λ (g : ℕ). mark f (suc k) g && not (mark f k g) in
      elim (stable_or_more f k lf) [
        | inl stable ↦ inl (stays_stable f k stable)
        | inr big ↦ elim (cases_Bool (list_any is_new (all_faces faces))) [
          | inl new ↦
              let g = range_any is_new 0 (length faces) new in
              let less : size f k < size f (suc k) = count_below_lt (λ h. cond (mark f k h) 1 0) (λ h. cond (mark f
              (suc k) h) 1 0) (length faces) g.0 (omega (arith, g.2)) (search (rules, grows)) (search rules) in
              inr (omega arith)
          | inr none ↦ inl (stays_stable f k (λ g l m. elim (cases_Bool (mark f k g)) [
            | inl y ↦ y
            | inr off ↦ absurd (false≢true (sym none ∙ any_in_range is_new 0 (length faces) g (omega arith)
                (omega arith) (and_from _ _ m (not_from_false _ off))))
          ]))
        ]
      ]

  -- The component is closed.
  pub closed : (f h g : ℕ) → f < length faces → h < length faces → g < length faces → is_marked (component_of faces f) h
      ≡ true → share_edge faces h g ≡ true → is_marked (component_of faces f) g ≡ true
  closed f h g lf lh lg m s = elim (stable_or_more f (length faces) lf) [
    | inl stable ↦ stable g lg (reaches f (length faces) h g lh lg m s)
    | inr big ↦ let most = count_below_le (λ x. cond (mark f (length faces) x) 1 0) (λ x. 1) (length faces)
        (λ x l. once_at_most (mark f (length faces) x)) in absurd (omega (arith, most, count_below_ones (length faces)))
  ]

  -- It has its own face, and each to which a chain leads.
  own : (f k : ℕ) → f < length faces → mark f k f ≡ true
  own f zero l = first_mark f f l ∙ eq-eqb f f refl
  own f (suc k) l = grows f k f l (own f k l)

  pub own_mark : (f : ℕ) → f < length faces → is_marked (component_of faces f) f ≡ true
  own_mark f l = own f (length faces) l

  pub complete : (f g n : ℕ) → f < length faces → Shares faces f g n → is_marked (component_of faces f) g ≡ true
  complete f g zero l s = ap (is_marked (component_of faces f)) (sym s) ∙ own_mark f l
  complete f g (suc n) l s = closed f s.0 g l s.2 s.3 (complete f s.0 n l s.1) s.4

  -- Faces of one component have the same.
  marks_are : (f k : ℕ) → within faces f k ≡ map (mark f k) (all_faces faces)
  marks_are f k = search (rules, map_range_same, first_mark, next_mark)

  pub same_component : (f g : ℕ) → f < length faces → g < length faces → is_marked (component_of faces f) g ≡ true
      → component_of faces g ≡ component_of faces f
  same_component f g lf lg m =
      let last = length faces in
      let there = sound f last g lf lg m in
      let back = shares_back f g there.0 lf there.1 in
      let one_way : (f g n : ℕ) → f < length faces → g < length faces → Shares faces f g n → (x : ℕ) → x < length faces
      → mark g (length faces) x ≡ true → mark f (length faces) x ≡ true = search (rules, sound, shares_join, complete)
      in
      search (rules, marks_are, map_range_same)

  -- The least face of a component.
  marks_long : (f : ℕ) → length (component_of faces f) ≡ length faces
  marks_long f = ap length (marks_are f (length faces)) ∙ (length-map (all_faces faces) (mark f (length faces))
      ∙ length-range_with_len 0 (length faces))

  pub least_most : (f g : ℕ) → g < length faces → is_marked (component_of faces f) g ≡ true → least_face faces f ≤ g
  least_most f g l m = search (rules, fails_before_first)

  pub least_low : (f : ℕ) → f < length faces → least_face faces f < length faces
  least_low f l = omega (arith, least_most f f l (own_mark f l))

  pub least_marked : (f : ℕ) → f < length faces → is_marked (component_of faces f) (least_face faces f) ≡ true
  least_marked f l = passes_at_first (λ b. b) (component_of faces f) false (omega (arith, least_low f l, marks_long f))

  pub least_same : (f g : ℕ) → f < length faces → g < length faces → is_marked (component_of faces f) g ≡ true
      → least_face faces g ≡ least_face faces f
  least_same f g lf lg m = ap (position_or_len (λ b. b)) (same_component f g lf lg m)

  pub least_again : (f : ℕ) → f < length faces → least_face faces (least_face faces f) ≡ least_face faces f
  least_again f l = least_same f (least_face faces f) l (least_low f l) (least_marked f l)

-- The number of vertices, and the length of a fan.

-- Each number of a list is below the bound, which is the least.
pub below_bound : (xs : List ℕ) (i : ℕ) → i < length xs → get_or xs i 0 < above_all xs
below_bound [] i l = absurd (omega arith)
below_bound (x ∷ xs) zero l = omega arith
below_bound (x ∷ xs) (suc i) l = omega (arith, below_bound xs i (omega arith))

pub least_bound : (xs : List ℕ) (n : ℕ) → ((i : ℕ) → i < length xs → get_or xs i 0 < n) → above_all xs ≤ n
least_bound [] n below = omega arith
least_bound (x ∷ xs) n below =
    omega (arith, below 0 (omega arith), least_bound xs n (λ i l. below (suc i) (omega arith)))

pub from_at : (faces : Faces) (d : ℕ) → d < darts faces → get_or (map (from_of faces) (all_darts faces)) d 0
    ≡ from_of faces d
from_at faces d l = get_or-map-range_with_len (from_of faces) 0 (darts faces) d d 0 l (omega arith)

pub from_count : (faces : Faces) → length (map (from_of faces) (all_darts faces)) ≡ darts faces
from_count faces = length-map (all_darts faces) (from_of faces) ∙ length-range_with_len 0 (darts faces)

-- Each corner is a vertex.
pub all_below : (faces : Faces) → (d : ℕ) → d < darts faces → from_of faces d < vertex_count faces
all_below faces d l = search (rules, below_bound, from_count, from_at)

pub count_least : (faces : Faces) (n : ℕ) → ((d : ℕ) → d < darts faces → from_of faces d < n) → vertex_count faces ≤ n
count_least faces n within = search (rules, least_bound, from_count, from_at)

-- A fan has at most all darts.
pub fan_short : (faces : Faces) (v : ℕ) → faces_at faces v ≤ darts faces
fan_short faces v =
    let both = length-filter_both _ (λ d. not (eqb (from_of faces d) v)) (λ d. refl) (all_darts faces) in
    omega (arith, length-range_with_len 0 (darts faces))
