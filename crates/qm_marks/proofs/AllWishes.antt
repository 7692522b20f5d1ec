-- Wishes line by line: what is known after some lines of a text.
use Rattle.std.proofs.lemmas.List.{get_or_default, at_drop_more, drop_all, length-map}
use Rattle.std.proofs.Common.{rules, List, arith, codes, cond, drop, false, get_or, length, map, refl}
use Rattle.std.proofs.Common.{take, true, Ok, [], ap, sym, ℕ, ◌++◌, ◌+◌, ◌<◌, ◌∙◌, ◌∷◌, ◌≡◌, ◌≤◌, Bool}
use Rattle.def_fit.specs.WishLines.{all_wish_fails, is_wish_line, vertex_line_count, wish_or, wishes_said}
use Rattle.def_marks.specs.Lines.{corner_index, is_line_corner, is_malformed, named_chain, named_vertex, is_nothing}
use Rattle.std.proofs.lemmas.{Bool.not-false, Bool.or_parts, Simd.map-map, Slice.Eq.bytes_eq-Decides}
use Rattle.def_fit.specs.WishLines.{Wished, all_wished, wish_fails, wish_words}
use Rattle.std.{proofs.Common.ltb, proofs.Common.not, proofs.Common.◌||◌, specs.List.All}
use Rattle.def_fit.specs.{WishLines.wished_by, WishLines.wishes_of, declared.fit.TheConstants.MAX_WISH}
use Rattle.std.specs.{List.list_all, List.list_any, Str.bytes_eq}
use Rattle.qm_marks.{proofs.EdgeMarks.is_map, specs.Wishing.TakesWish, specs.Wishing.pieces_of}
use Rattle.{def_marks.specs.Chains.runs_between, def_text.specs.FaceSet.FaceSet, def_text.specs.Types.Words}
use Rattle.{def_text.specs.declared.index.Index.Index, def_io.specs.Bytes.Bytes}
use Rattle.{def_io.specs.Bytes.Lines, def_mesh.specs.Darts.darts, def_mesh.specs.Faces.Faces}

-- Wishes one after another.
wish_or_more : (faces : Faces) (d before : ℕ) (one more : List Wished) → wish_or faces d before (one ++ more)
    ≡ wish_or faces d (wish_or faces d before one) more
wish_or_more faces d before [] more = refl
wish_or_more faces d before (wished ∷ one) more =
    wish_or_more faces d (cond (runs_between faces wished.u wished.v d) wished.wish before) one more

-- What is known after the first lines.
pub record IsAtWish (soup : FaceSet) (lines : Lines) (all i : ℕ) (list : List ℕ) : Type 0 where
  pub long : length list ≡ darts soup.faces
  pub fails : all_wish_fails soup all (i + 1) (drop i lines) ≡ all_wish_fails soup all 1 lines
  pub wishes : (d : ℕ) → d < darts soup.faces → wish_or soup.faces d (get_or list d 0)
      (all_wished soup.names (drop i lines)) ≡ wish_or soup.faces d 1000 (all_wished soup.names lines)
  pub small : (d : ℕ) → d < darts soup.faces → get_or list d 0 ≤ MAX_WISH

module _ {soup : FaceSet} {lines : Lines} {all i : ℕ} {wishes : List ℕ} (known : IsAtWish soup lines all i wishes) where
  module _ (low : i < length lines) where
    abbrev line : Bytes
    line = get_or lines i []

    abbrev said : List Wished
    said = cond (is_wish_line line) (wishes_said soup.names (wished_by (wish_words line))) []

    -- A line that is accepted.
    more : (new : List ℕ) → wish_fails soup all (i + 1) line ≡ [] → length new ≡ darts soup.faces
        → ((d : ℕ) → d < darts soup.faces → get_or new d 0 ≡ wish_or soup.faces d (get_or wishes d 0) said)
        → ((d : ℕ) → d < darts soup.faces → get_or new d 0 ≤ MAX_WISH) → IsAtWish soup lines all (i + 1) new
    more new accepted long each few =
        let next : all_wish_fails soup all 1 lines ≡ wish_fails soup all (i + 1) line ++ all_wish_fails soup all (i + 1
        + 1) (drop (i + 1) lines) = sym known.fails ∙ at_drop_more (all_wish_fails soup all (i + 1)) lines i [] low in
        record {
          long = long;
          fails = sym (rw accepted at next);
          wishes = λ d l. rw (each d l) (
              sym (wish_or_more soup.faces d (get_or wishes d 0) said (all_wished soup.names (drop (i + 1) lines)))
              ∙ sym (at_drop_more (λ (ls : Lines). wish_or soup.faces d (get_or wishes d 0) (all_wished soup.names ls))
              lines i [] low) ∙ known.wishes d l);
          small = few;
        }

    -- One that wishes for nothing.
    pub at_other : bytes_eq (take 3 line) (codes "#w ") ≡ false → IsAtWish soup lines all (i + 1) wishes
    at_other other = search (rules, more)

    module _ (begins : bytes_eq (take 3 line) (codes "#w ") ≡ true) {rest : Bytes} (behind : rest ≡ drop 3 line) where
      on : is_wish_line line ≡ true
      on = ap (bytes_eq (codes "#w ")) ((bytes_eq-Decides (take 3 line) (codes "#w ")).0 begins)

      -- One that is taken.
      pub at_wish : (new : List ℕ) → length new ≡ darts soup.faces
          → TakesWish soup all (i + 1) (pieces_of rest) wishes new → IsAtWish soup lines all (i + 1) new
      at_wish new long took = search (rules, more)

  -- Behind the last line.
  module _ (high : length lines ≤ i) where
    none_left : drop i lines ≡ []
    none_left = drop_all i lines high

    each : (d : ℕ) → d < darts soup.faces → get_or wishes d 0 ≡ wish_or soup.faces d 1000 (all_wished soup.names lines)
    each d l = rw none_left at (known.wishes d l)

    pub at_last : all ≡ vertex_line_count lines → wishes_of soup lines ≡ Ok wishes
    at_last count =
        let listed = is_map (λ d. wish_or soup.faces d 1000 (all_wished soup.names lines)) (darts soup.faces) 0 wishes
        known.long each in
        rw (← count, ← known.fails, none_left, ← listed) refl

    pub at_small : All (λ wish. wish ≤ MAX_WISH) wishes
    at_small k d l = rw (← get_or_default wishes k 0 d l) (known.small k (omega arith))

-- Why the corners of a line are refused, by what is read of them.

module _ (all before : ℕ) (corners : Words) (right : Bool) (indices : List Index) (is : right
    ≡ list_all is_line_corner corners) (are : right ≡ true → indices ≡ map (corner_index all before) corners) where
  -- Where none is missing the indices are theirs.
  pub well_formed : (ltb (length indices) 2 || not right) ≡ false
      → (is_malformed corners ≡ false) × (indices ≡ map (corner_index all before) corners)
  well_formed off =
      let (many, proper) = or_parts _ _ off in
      let on = not-false _ proper in
      let same : length indices ≡ length corners = ap length (are on) ∙ length-map corners (corner_index all before) in
      (cc, are on)

any_map : {X Y : Type 0} (p : Y → Bool) (f : X → Y) (xs : List X) → list_any p (map f xs) ≡ list_any (λ x. p (f x)) xs
any_map p f [] = refl
any_map p f (x ∷ xs) = ap (λ b. p (f x) || b) (any_map p f xs)

-- What is found of indices is so of corners.
pub nothing_is : (all before : ℕ) (corners : Words) (indices : List Index) → indices ≡ map (corner_index all before)
    corners → list_any is_nothing indices ≡ list_any (λ word. is_nothing (corner_index all before word)) corners
nothing_is all before corners indices are = search (rules, any_map)

pub chain_is : (names : List ℕ) (all before : ℕ) (corners : Words) (indices : List Index) (chain : List ℕ)
    → indices ≡ map (corner_index all before) corners
    → chain ≡ map (named_vertex names) indices → chain ≡ named_chain names all before corners
chain_is names all before corners indices chain are is = search (rules, map-map)
