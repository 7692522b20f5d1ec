-- The vertices along an arc, and the line that names them.
use Rattle.std.proofs.Common.{◌≡◌, ℕ, zero, suc, ◌+◌, ◌-◌, ◌<◌, ◌≤◌, ◌^◌, Bool, true, false, cond, eqb, List, [], ◌∷◌}
use Rattle.std.proofs.Common.{◌++◌, length, map, get_or, refl, sym, ap, ◌∙◌, arith}
use Rattle.std.proofs.lemmas.List.{append_assoc, append-nil, get_or-map, length-map, map-append, same_lists}
use Rattle.std.proofs.{lemmas.Bool.cond-false, lemmas.Bool.cond-true, lemmas.Bool.eq-eqb, lemmas.Bool.ne_eqb}
use Rattle.std.proofs.{lemmas.List.Concat.flat_map-append, lemmas.List.FromFn.get_or-map-range_with_len}
use Rattle.std.proofs.{lemmas.List.FromFn.length-range_with_len}
use Rattle.std.specs.{Prelude.decimal, Prelude.slice_index, List.flat_map, List.range_with_len}
use Rattle.def_layout.specs.{Arcs.Path, Arcs.path, Arcs.path_at, Gluings.Gluing, Lengths.Lengths, Layouts.gluing_of}
use Rattle.def_layout.specs.{Layouts.Layout, Layouts.layout_of, declared.tmesh.TArc.TArc, declared.tmesh.TMesh.TMesh}
use Rattle.def_io.specs.{Bytes.Bytes, declared.TheConstants.LINE_FEED}
use Rattle.def_marks.specs.{declared.fail.TheConstants.LINE, MarkedText.arc_chain, MarkedText.arc_text}
use Rattle.def_marks.specs.{MarkedText.chain_text}
use Rattle.def_text.specs.declared.letters.TheConstants.{SPACE}
use Rattle.def_written.specs.{Numbers.before_arc, Numbers.vertex_number, Numbers.vertices, Points.along}
use Rattle.def_written.specs.{Points.arc_point, Points.node}
use Rattle.{list_laws.proofs.Filters.range_more, def_math.specs.Counts.count_below, def_cut.specs.FullCut.is_on}
use Rattle.{def_remesh.specs.NewPoints.lengths_in, qm_marktext.specs.Chains.chain_from}

-- Sums below a bound grow with it.
grows : (f : ℕ → ℕ) (a n : ℕ) → count_below f a ≤ count_below f (a + n)
grows f a zero = let e : a + 0 ≡ a = omega arith in omega (arith, ap (count_below f) e)
grows f a (suc n) = let e : a + suc n ≡ suc (a + n) = omega arith in omega (arith, grows f a n, ap (count_below f) e)

module _ (gluing : Gluing) (new : Lengths) (few : vertices gluing new < 2 ^ 32) (a : ℕ) (low : a < gluing.arcs) where
  -- The inner points of arc a and those before them are few.
  pub arc_few : gluing.nodes + before_arc new a + (new a - 1) < 2 ^ 32
  arc_few =
      let e : suc a + (gluing.arcs - suc a) ≡ gluing.arcs = omega (arith, low) in
      omega (arith, few, grows (λ b. new b - 1) (suc a) (gluing.arcs - suc a), ap (count_below (λ b. new b - 1)) e)

  module _ (some : 0 < new a) where
    abbrev f : ℕ → ℕ
    f k = vertex_number gluing new (arc_point gluing new a k)

    last_is : f (new a) ≡ gluing.last a
    last_is = ap (vertex_number gluing new)
        (cond-false (eqb (new a) 0) (node (gluing.first a)) (cond (eqb (new a) (new a)) (node (gluing.last a))
        (along a (new a))) (ne_eqb (new a) 0 (λ (z : new a ≡ 0). let h : new a ≡ 0 = z in omega (arith, some)))
        ∙ cond-true (eqb (new a) (new a)) (node (gluing.last a)) (along a (new a)) (eq-eqb (new a) (new a) refl))

    inner_is : (k : ℕ) → 0 < k → k < new a → f k ≡ gluing.nodes + before_arc new a + (k - 1)
    inner_is k positive less = ap (vertex_number gluing new)
        (cond-false (eqb k 0) (node (gluing.first a)) (cond (eqb k (new a)) (node (gluing.last a)) (along a k))
        (ne_eqb k 0 (λ (z : k ≡ 0). let h : k ≡ 0 = z in omega (arith, positive)))
        ∙ cond-false (eqb k (new a)) (node (gluing.last a)) (along a k)
        (ne_eqb k (new a) (λ (z : k ≡ new a). let h : k ≡ new a = z in omega (arith, less))))

    -- The chain of an arc.
    pub chain_is : arc_chain gluing new a ≡ chain_from (gluing.first a) (gluing.nodes + before_arc new a) (new a)
        (gluing.last a)
    chain_is =
        let e : new a ≡ suc (new a - 1) = omega (arith, some) in
        let split : map f (range_with_len 0 (new a + 1)) ≡ map f (range_with_len 0 (new a)) ++ f (new a) ∷ [] =
        ap (map f) (range_more (new a)) ∙ map-append f (range_with_len 0 (new a)) (new a ∷ []) in
        let front : map f (range_with_len 0 (new a)) ≡ gluing.first a ∷ map f (range_with_len 1 (new a - 1)) =
        ap (λ n. map f (range_with_len 0 n)) e in
        split ∙ (λ i. front i ++ last_is i ∷ []) ∙ ap (λ xs. gluing.first a ∷ xs ++ gluing.last a ∷ []) same
      where
        same : map f (range_with_len 1 (new a - 1)) ≡ map (λ k. gluing.nodes + before_arc new a + k)
            (range_with_len 0 (new a - 1))
        same = same_lists (map f (range_with_len 1 (new a - 1))) (map (λ k. gluing.nodes + before_arc new a + k)
            (range_with_len 0 (new a - 1))) (length-map (range_with_len 1 (new a - 1)) f
            ∙ (length-range_with_len 1 (new a - 1) ∙ sym (length-map (range_with_len 0 (new a - 1))
            (λ k. gluing.nodes + before_arc new a + k) ∙ length-range_with_len 0 (new a - 1)))) (λ k d l.
            let m : k < new a - 1 = omega (
              arith,
              l,
              length-map (range_with_len 1 (new a - 1)) f,
              length-range_with_len 1 (new a - 1),
            ) in
            get_or-map-range_with_len f 1 (new a - 1) k (1 + k) d m refl
            ∙ (inner_is (1 + k) (omega arith) (omega (arith, m)) ∙ (omega arith
            ∙ sym (get_or-map-range_with_len (λ k. gluing.nodes + before_arc new a + k) 0 (new a - 1) k k d m
            (omega arith)))))

-- One arc more.
pub text_more : (marks : List Bool) (layout : Layout) (new : Lengths) (n : ℕ)
    → flat_map (arc_text marks layout new) (range_with_len 0 (n + 1))
    ≡ flat_map (arc_text marks layout new) (range_with_len 0 n) ++ arc_text marks layout new n
text_more marks layout new n = ap (flat_map (arc_text marks layout new)) (range_more n)
    ∙ (flat_map-append (arc_text marks layout new) (range_with_len 0 n) (n ∷ [])
    ∙ ap (λ xs. flat_map (arc_text marks layout new) (range_with_len 0 n) ++ xs)
    (append-nil (arc_text marks layout new n)))

-- The arc of a layout.
pub arc_is : (t : TMesh) (a : ℕ) (arc : TArc) → a < length t.arcs.items → arc ≡ get_or t.arcs.items a arc
    → path_at (layout_of t).arcs a ≡ path arc
arc_is t a arc low is = get_or-map path t.arcs.items a arc (record { first = 0; last = 0; darts = [] }) low
    ∙ ap path (sym is)

module _ (marks : List Bool) (t : TMesh) (x : List ℕ) (a : ℕ) (arc : TArc) (low : a < length t.arcs.items) (is : arc
    ≡ get_or t.arcs.items a arc) where
  -- A marked arc has its line,
  pub text_on : vertices (gluing_of (layout_of t)) (lengths_in x) < 2 ^ 32 → 0 < lengths_in x a
      → is_on marks (slice_index arc.darts.items 0) ≡ true → arc_text marks (layout_of t) (lengths_in x) a ≡ chain_text
      (chain_from arc.first (length t.nodes.items + before_arc (lengths_in x) a) (lengths_in x a) arc.last)
  text_on few some on = ap (λ (b : Bool). cond b (chain_text (arc_chain (gluing_of (layout_of t)) (lengths_in x) a)) [])
      (ap (λ (p : Path). is_on marks (slice_index p.darts 0)) (arc_is t a arc low is) ∙ on) ∙ ap chain_text
      (chain_is (gluing_of (layout_of t)) (lengths_in x) few a (omega (arith, low, length-map t.arcs.items path)) some
      ∙ ap (λ (p : Path). chain_from p.first (length t.nodes.items + before_arc (lengths_in x) a) (lengths_in x a)
      p.last) (arc_is t a arc low is))

  -- and any other none.
  pub text_off : is_on marks (slice_index arc.darts.items 0) ≡ false
      → arc_text marks (layout_of t) (lengths_in x) a ≡ []
  text_off off = ap (λ (b : Bool). cond b (chain_text (arc_chain (gluing_of (layout_of t)) (lengths_in x) a)) [])
      (ap (λ (p : Path). is_on marks (slice_index p.darts 0)) (arc_is t a arc low is) ∙ off)

-- What is written of a vertex.
abbrev pub vertex_text : (vertex : ℕ) → Bytes
vertex_text vertex = SPACE ∷ decimal (vertex + 1)

-- One inner point more is written.
pub inner_more : (before k : ℕ) → 1 ≤ k → flat_map (λ vertex. SPACE ∷ decimal (vertex + 1))
    (map (λ j. before + j) (range_with_len 0 (k + 1 - 1))) ≡ flat_map (λ vertex. SPACE ∷ decimal (vertex + 1))
    (map (λ j. before + j) (range_with_len 0 (k - 1))) ++ SPACE ∷ decimal (before + k)
inner_more before k some =
    let e : k + 1 - 1 ≡ k - 1 + 1 = omega (arith, some) in
    let n : before + (k - 1) + 1 ≡ before + k = omega (arith, some) in
    ap (λ m. flat_map (λ vertex. SPACE ∷ decimal (vertex + 1)) (map (λ j. before + j) (range_with_len 0 m))) e
    ∙ (ap (λ xs. flat_map (λ vertex. SPACE ∷ decimal (vertex + 1)) (map (λ j. before + j) xs)) (range_more (k - 1))
    ∙ (ap (flat_map (λ vertex. SPACE ∷ decimal (vertex + 1))) (map-append (λ j. before + j) (range_with_len 0 (k - 1))
    ((k - 1) ∷ [])) ∙ (flat_map-append (λ vertex. SPACE ∷ decimal (vertex + 1))
    (map (λ j. before + j) (range_with_len 0 (k - 1))) ((before + (k - 1)) ∷ [])
    ∙ (ap (λ xs. flat_map (λ vertex. SPACE ∷ decimal (vertex + 1)) (map (λ j. before + j) (range_with_len 0 (k - 1))) ++
    xs) (append-nil (vertex_text (before + (k - 1)))) ∙ ap (λ m. flat_map (λ vertex. SPACE ∷ decimal (vertex + 1))
    (map (λ j. before + j) (range_with_len 0 (k - 1))) ++ SPACE ∷ decimal m) n))))

-- The parts of a line, put one behind another.
parts_are : (text front inner last : Bytes) → (((text ++ LINE ∷ front) ++ inner) ++ last) ++ LINE_FEED ∷ []
    ≡ text ++ (LINE ∷ (front ++ (inner ++ (last ++ []))) ++ LINE_FEED ∷ [])
parts_are [] front inner last = ap (λ (xs : Bytes). LINE ∷ xs ++ LINE_FEED ∷ [])
    (append_assoc front inner last ∙ ap (λ (xs : Bytes). front ++ (inner ++ xs)) (sym (append-nil last)))
parts_are (t ∷ text) front inner last = ap (λ (xs : Bytes). t ∷ xs) (parts_are text front inner last)

-- The whole line.
pub line_is : (text : Bytes) (first before size last : ℕ)
    → (((text ++ LINE ∷ vertex_text first) ++ flat_map (λ vertex. SPACE ∷ decimal (vertex + 1))
    (map (λ j. before + j) (range_with_len 0 (size - 1)))) ++ vertex_text last) ++ LINE_FEED ∷ []
    ≡ text ++ chain_text (chain_from first before size last)
line_is text first before size last = parts_are text (vertex_text first)
    (flat_map (λ vertex. SPACE ∷ decimal (vertex + 1)) (map (λ j. before + j) (range_with_len 0 (size - 1))))
    (vertex_text last) ∙ ap (λ (xs : Bytes). text ++ (LINE ∷ (vertex_text first ++ xs) ++ LINE_FEED ∷ []))
    (sym (flat_map-append (λ vertex. SPACE ∷ decimal (vertex + 1)) (map (λ j. before + j) (range_with_len 0 (size - 1)))
    (last ∷ [])))
