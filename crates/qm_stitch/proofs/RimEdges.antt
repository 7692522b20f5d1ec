-- Lists that are joined of parts, in which no item stands twice.
use Rattle.std.proofs.lemmas.Grind.{common_steps}
use Rattle.std.proofs.Common.{rules, ◌≡◌, ◌≢◌, ◌⊎◌, ◌↔◌, ℕ, zero, suc, ◌+◌, ◌-◌, ◌<◌, ◌≤◌, Bool, true, false, cond, not}
use Rattle.std.proofs.Common.{List, [], ◌∷◌, ◌++◌, map, length, refl, sym, ◌∙◌, ap, inr, length-append}
use Rattle.std.proofs.{Common.arith, lemmas.List.map-id, lemmas.List.Concat.flat_map-append}
use Rattle.std.proofs.lemmas.List.{get_or_append_left, get_or-append_right, append-nil, append_assoc, map-append}
use Rattle.std.proofs.lemmas.List.Elements.{All-append, All-nil, Contains-append_left, Contains-append_right}
use Rattle.std.proofs.lemmas.List.FromFn.{get_or-map-range_with_len, length-map-range_with_len, map-range_with_len_more}
use Rattle.std.proofs.lemmas.Bool.{cases_eq, cases_lt, Decides.nat_tests}
use Rattle.std.specs.List.{All, AllPairs, Contains, flat_map, range_with_len}
use Rattle.def_layout.specs.Lengths.{Lengths, size, wide, high, AreLengths}
use Rattle.def_written.specs.Edges.{Edge, on_arc, flat, steep, IsEdge}
use Rattle.qm_stitch.specs.Rims.{all_lines, along_lines, arcs_upto, ends_in, line_edge, line_ends, patches_upto}
use Rattle.{def_layout.specs.Gluings.Gluing, def_layout.specs.Surfaces.HasWholeSides}
use Rattle.{written_laws.proofs.Sides.size_some, qm_stitch.specs.Rims.rim_edges, qm_stitch.specs.Rims.segments}

-- No item stands twice.
abbrev pub IsFresh : {X : Type 0} (xs : List X) → Type 0
IsFresh xs = AllPairs (λ x y. x ≢ y) xs

module _ {X : Type 0} where
  -- Lists behind each other that a number tells apart.
  fresh_append : (tag : X → ℕ) (m : ℕ) (xs ys : List X) → IsFresh xs → IsFresh ys → All (λ x. tag x ≤ m) xs
      → All (λ y. m < tag y) ys → IsFresh (xs ++ ys)
  fresh_append tag m xs ys fresh_x fresh_y is more =
      grind (arith, length-append xs ys, get_or_append_left xs ys, get_or-append_right xs ys (length xs))

  -- What is true in each part, and what is in one.
  all_parts : (P : X → Type 0) (part : ℕ → List X) (first many : ℕ)
      → ((k : ℕ) → first ≤ k → k < first + many → All P (part k)) → All P (flat_map part (range_with_len first many))
  all_parts P part first zero each = All-nil P
  all_parts P part first (suc many) each = search (rules, All-append P (part first), all_parts P part (first + 1) many)

  in_part : (part : ℕ → List X) (first many k : ℕ) (x : X) → first ≤ k → k < first + many → Contains (part k) x
      → Contains (flat_map part (range_with_len first many)) x
  in_part part first zero k x low high has = absurd (omega arith)
  in_part part first (suc many) k x low high has =
      search (rules, cases_eq k first, Contains-append_left, Contains-append_right, in_part part (first + 1) many k x)

  -- Parts that are told apart by a number.
  fresh_parts : (part : ℕ → List X) (tag : X → ℕ) (first many : ℕ) → ((k : ℕ) → IsFresh (part k))
      → ((k : ℕ) → All (λ x. tag x ≡ k) (part k)) → IsFresh (flat_map part (range_with_len first many))
  fresh_parts part tag first zero fresh tags = λ i j d less low. absurd (omega arith)
  fresh_parts part tag first (suc many) fresh tags = fresh_append tag first (part first) _ (fresh first)
      (fresh_parts part tag (first + 1) many fresh tags) (λ i d low. omega (arith, tags first i d low))
      (all_parts (λ z. first < tag z) part (first + 1) many (λ k from to i d low. omega (arith, tags k)))

  all_range : (P : X → Type 0) (item : ℕ → X) (many : ℕ) → ((k : ℕ) → k < many → P (item k))
      → All P (map item (range_with_len 0 many))
  all_range P item many each i d low =
      grind (arith, length-map-range_with_len item 0 many, get_or-map-range_with_len item 0 many i i d, each i)

  in_range : (item : ℕ → X) (many k : ℕ) → k < many → Contains (map item (range_with_len 0 many)) (item k)
  in_range item many k low = (
    k,
    omega (arith, length-map-range_with_len item 0 many),
    get_or-map-range_with_len item 0 many k k (item k) low (omega arith),
  )

-- Two lists behind each other.
pub both_next : {X Y : Type 0} (f : X → Y) (us vs : List X) (xs : List Y) {ys zs : List Y} → ys ≡ xs ++ map f us
    → zs ≡ ys ++ map f vs → zs ≡ xs ++ map f (us ++ vs)
both_next f us vs xs first second = rw (second, first) (simp (map-append, append_assoc))

-- One item, and a second one in one of two cases.
pub first_next : {X Y : Type 0} (f : X → Y) (first last : X) (several : Bool) (xs : List Y) {ys zs : List Y} {y z : Y}
    → several ≡ true → ys ≡ xs ++ y ∷ [] → y ≡ f first → zs ≡ ys ++ z ∷ [] → z ≡ f last
    → zs ≡ xs ++ map f (first ∷ cond several (last ∷ []) [])
first_next f first last several xs on one is two end = rw (on, two, one, is, end) (simp append_assoc)

pub first_alone : {X Y : Type 0} (f : X → Y) (first last : X) (several : Bool) (xs : List Y) {ys : List Y} {y : Y}
    → several ≡ false → ys ≡ xs ++ y ∷ [] → y ≡ f first → ys ≡ xs ++ map f (first ∷ cond several (last ∷ []) [])
first_alone f first last several xs off one is = rw (off, one, is)

-- One item more.
pub item_next : {X Y : Type 0} (f : X → Y) (item : ℕ → X) (many : ℕ) (before : List Y) {ys zs : List Y} {y : Y}
    → ys ≡ before ++ map f (map item (range_with_len 0 many)) → zs ≡ ys ++ y ∷ [] → y ≡ f (item many)
    → zs ≡ before ++ map f (map item (range_with_len 0 (many + 1)))
item_next f item many before so_far more is = grind (arith, common_steps, map-range_with_len_more item 0 many many)

pub parts_next : {X Y : Type 0} (f : X → Y) (part : ℕ → List X) (first many next : ℕ) (before : List Y) {ys zs : List Y}
    → first + many ≡ next → ys ≡ before ++ map f (flat_map part (range_with_len first many)) → zs
    ≡ ys ++ map f (part next) → zs ≡ before ++ map f (flat_map part (range_with_len first (many + 1)))
parts_next f part first many next before is so_far more = rw (
  more,
  so_far,
  ← is,
  sym (map-id _)
      ∙ map-range_with_len_more (λ k. k) first many _ refl ∙ ap (λ ks. ks ++ (first + many) ∷ []) (map-id _),
)
    (simp (flat_map-append, append-nil, map-append, append_assoc))

-- The edges that are listed are edges, each once, and all others lie between two inner points of a patch.

-- What tells edges apart: the kind, the arc or the patch, the number along the arc or of the row or the column, and the
-- place in that.
abbrev parts : (e : Edge) → ℕ × ℕ × ℕ × ℕ
parts (on_arc a k) = (0, a, k, 0)
parts (flat p i j) = (1, p, j, i)
parts (steep p i j) = (2, p, i, j)

parts_are : (u : Bool) (p n k : ℕ) → parts (line_edge u p n k) ≡ (cond u 2 1, p, n, k)
parts_are false p n k = refl
parts_are true p n k = refl

-- A first edge, and a last one behind it where there are several.
all_ends : {X : Type 0} (P : X → Type 0) (several : Bool) (first last : X) → P first → P last
    → All P (first ∷ cond several (last ∷ []) [])
all_ends P several first last is end = grind arith

deep_or_end : (u : Bool) (p long n k : ℕ) → k < long
    → ((0 < k) × (k + 1 < long)) ⊎ Contains (line_ends u p long n) (line_edge u p n k)
deep_or_end u p long n k less = grind (arith, nat_tests, cases_eq k 0, cases_lt (k + 1) long, cases_lt 1 long)

-- An edge of a line is one of the layout exactly where its numbers are.
pub line_is : (l : Gluing) (x : Lengths) (u : Bool) (p n k : ℕ) → IsEdge l x (line_edge u p n k)
    ↔ ((p < l.patches) × (0 < n) × (n < size l x p (along_lines (not u))) × (k < size l x p (along_lines u)))
line_is l x false p n k = assumption
line_is l x true p n k = assumption

module _ (l : Gluing) (x : Lengths) where
  -- How long the lines of a patch are.
  abbrev long : (u : Bool) (p : ℕ) → ℕ
  long u p = size l x p (along_lines u)

  -- What is true of all edges of lines.
  each_line : (P : Edge → Type 0) (u : Bool) (p : ℕ)
      → ((n k : ℕ) → 0 < n → n < long (not u) p → (0 < long u p → k < long u p) → P (line_edge u p n k))
      → All P (all_lines l x u p)
  each_line P u p each = grind (arith, all_parts P (line_ends u p (long u p)) 1 (long (not u) p - 1))

  each_in : (P : Edge → Type 0) (p : ℕ)
      → ((u : Bool) (n k : ℕ) → 0 < n → n < long (not u) p → (0 < long u p → k < long u p) → P (line_edge u p n k))
      → All P (ends_in l x p)
  each_in P p each = search (rules, All-append, each_line)

  each_patch : (P : Edge → Type 0) → ((u : Bool) (p n k : ℕ) → p < l.patches → 0 < n → n < long (not u) p
      → (0 < long u p → k < long u p) → P (line_edge u p n k)) → All P (patches_upto l x l.patches)
  each_patch P each = all_parts P _ 0 _ (λ p low up. each_in P p (λ u n k. each u p n k (omega (arith, up))))

  each_arc : (P : Edge → Type 0) → ((a k : ℕ) → a < l.arcs → k < x a → P (on_arc a k)) → All P (arcs_upto x l.arcs)
  each_arc P each = grind (arith, all_parts P (segments x) 0 l.arcs, all_range P)

  fresh_lines : (u : Bool) (p : ℕ) → IsFresh (all_lines l x u p)
  fresh_lines u p = fresh_parts (line_ends u p (long u p)) (λ e. (parts e).2) 1 _ (search rules) (search rules)

  fresh_patch : (p : ℕ) → IsFresh (ends_in l x p)
  fresh_patch p = fresh_append (λ e. (parts e).0) 1 _ _ (fresh_lines false p) (fresh_lines true p)
      (search (rules, each_line)) (search (rules, each_line))

  -- No edge is listed twice.
  pub fresh_rim : IsFresh (rim_edges l x)
  fresh_rim = fresh_append (λ e. (parts e).0) 0 _ _ (fresh_parts (segments x) (λ e. (parts e).1) 0 l.arcs
      (λ a. search (rules, on_arc, length-map-range_with_len, get_or-map-range_with_len)) (search (rules, all_range)))
      (fresh_parts (ends_in l x) (λ e. (parts e).1) 0 l.patches fresh_patch (search (rules, each_in, parts_are)))
      (search (rules, each_arc)) (each_patch (λ e. 0 < (parts e).0) (search rules))

  -- What is listed is an edge.
  pub all_edges : HasWholeSides l → AreLengths l x → All (IsEdge l x) (rim_edges l x)
  all_edges paved len = All-append (IsEdge l x) (arcs_upto x l.arcs) (patches_upto l x l.patches)
      (each_arc (IsEdge l x) (λ a k low less. (low, less))) (each_patch (IsEdge l x) (λ u p n k low some up less.
      (line_is l x u p n k).1 (low, some, up, less (size_some l x paved len p (along_lines u) low))))

  -- Both ends of an edge are inner points of a patch.
  abbrev pub IsDeep : (e : Edge) → Type 0
  IsDeep (on_arc a k) = ⊥
  IsDeep (flat p i j) = (0 < i) × (i + 1 < wide l x p)
  IsDeep (steep p i j) = (0 < j) × (j + 1 < high l x p)

  -- Each other edge is listed.
  in_lines : (u : Bool) (p n : ℕ) (e : Edge) → p < l.patches → 0 < n → n < long (not u) p
      → Contains (line_ends u p (long u p) n) e → Contains (rim_edges l x) e
  in_lines u p n e low some up has = Contains-append_right (arcs_upto x l.arcs) _ e
      (in_part (ends_in l x) 0 l.patches p e (omega arith) (omega (arith, low)) (by_way u
      (in_part (line_ends u p (long u p)) 1 (long (not u) p - 1) n e (omega (arith, some)) (omega (arith, up)) has)))
    where
      by_way : (v : Bool) → Contains (all_lines l x v p) e → Contains (ends_in l x p) e
      by_way false row = Contains-append_left (all_lines l x false p) _ e row
      by_way true column = Contains-append_right (all_lines l x false p) _ e column

  pub deep_or_listed : (e : Edge) → IsEdge l x e → IsDeep e ⊎ Contains (rim_edges l x) e
  deep_or_listed (on_arc a k) is = inr (Contains-append_left (arcs_upto x l.arcs) _ (on_arc a k)
      (in_part (segments x) 0 l.arcs a _ (omega arith) (omega (arith, is.0)) (in_range (on_arc a) (x a) k is.1)))
  deep_or_listed (flat p i j) is =
      grind (arith, deep_or_end false p (long false p) j i is.1, in_lines false p j (flat p i j) is.0 is.2 is.3)
  deep_or_listed (steep p i j) is =
      grind (arith, deep_or_end true p (long true p) i j is.3, in_lines true p i (steep p i j) is.0 is.1 is.2)
