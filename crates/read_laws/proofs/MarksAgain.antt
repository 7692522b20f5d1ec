-- The lines of chains behind a canonical text are read again as the marks along these chains.
use Rattle.std.proofs.Common.{rules, ◌≡◌, ◌+◌, ◌<◌, ◌≤◌, ◌&&◌, ◌^◌, ℕ, pos, suc, true, false, cond, not, List, []}
use Rattle.std.proofs.Common.{◌∷◌, ◌++◌, length, map, get_or, refl, sym, ap, ◌∙◌, arith, subst, eqb, is_some, Ok}
use Rattle.std.proofs.lemmas.Bool.{and_parts, and_right, eqb-true, ltb-false, ltb-true, not-true}
use Rattle.std.proofs.{lemmas.List.append-nil, lemmas.List.append_assoc, lemmas.List.take_all}
use Rattle.std.proofs.{lemmas.List.Folds.flat_map-map, lemmas.List.Sums.sum_by-cons}
use Rattle.std.specs.List.{before_first, count_by, flat_map, list_all, list_any}
use Rattle.def_io.specs.{Bytes.Bytes, Bytes.Lines, Lines.lines_of}
use Rattle.def_marks.specs.Lines.{first_fail, line_chain, line_fails, marks_of, Placed, placed_lines, text_lines}
use Rattle.def_marks.specs.Lines.{vertex_lines_in}
use Rattle.def_marks.specs.{Chains.marks_along, Chains.runs_along, MarkedText.chain_text}
use Rattle.def_readlaws.specs.ReadChains.{AreHashLines, IsChainOf, MarksAgainLaw}
use Rattle.def_text.specs.{Canonical.canonical_text, Canonical.micro_text, Decimal.is_far, FaceSet.FaceSet}
use Rattle.def_text.specs.{Laws.is_position, Logical.continues, Logical.is_hash, Logical.Logical}
use Rattle.def_text.specs.{Logical.logical_lines, Reading.begins_with, Reading.is_vertex_line, Text.numbers_to}
use Rattle.def_text.specs.{Types.Position, Types.Positions, Types.Words, Words.is_blank, Words.words}
use Rattle.qm_obj.proofs.LawSoup.{canonical_lines, each_both, each_map, face_line, face_line_is, position_line}
use Rattle.qm_obj.proofs.LawSoup.{position_line_is, text_lines as lines_text, vertex_word}
use Rattle.qm_obj.proofs.LawText.{decimal_word, is_tame, IsLine, IsWord, line_text, line_words, lines_back, lines_split}
use Rattle.qm_obj.proofs.LawText.{micro_word, no_continuation}
use Rattle.qm_obj.proofs.{Groups.logical_step, TailLemmas.passes_at, SoupLemmas.are_below}
use Rattle.remesh_laws.proofs.{Asides.canonical_ends, Asides.ends_lines, Asides.lines_are, Tails.lines_append}
use Rattle.remesh_laws.proofs.{MarkedLines.chain_line, MarkedLines.chain_tame, MarkedLines.chains_inside}
use Rattle.read_laws.proofs.{SaidChains.chain_said_law, SaidChains.line_is, Soups.all_weaker}
use Rattle.{def_certtext.specs.Reading.is_hash_line, def_mesh.specs.Darts.all_darts, def_mesh.specs.Darts.twin_of}
use Rattle.{def_remesh.specs.ReadAgain.ends_line, qm_dec.proofs.ReadBack.none_first}

-- Tame bytes have no comment.
tame_whole : (line : Bytes) → list_all is_tame line ≡ true → before_first is_hash line ≡ line
tame_whole line tame = search (rules, take_all, none_first, all_weaker)

-- The logical line of a line to which the next is not joined, and those of such lines.
abbrev lone : (number : ℕ) (line : Bytes) → Logical
lone number line = record { number = number; size = length line; text = before_first is_hash line }

abbrev lone_lines : (number : ℕ) (lines : Lines) → List Logical
lone_lines number [] = []
lone_lines number (line ∷ lines) = lone number line ∷ lone_lines (number + 1) lines

logical_lone : (number : ℕ) (lines : Lines) → ((k : ℕ) → k < length lines → continues (get_or lines k []) ≡ false)
    → logical_lines number lines ≡ lone_lines number lines
logical_lone number [] whole = refl
logical_lone number (line ∷ lines) whole =
    let again = logical_lone (number + 1) lines (λ k low. whole (suc k) (omega (arith, low))) in
    logical_step number line lines ∙ rw (whole 0 (omega arith)) (rw again refl)

-- A line of its own that is no `l` line.
record IsOther (line : Bytes) : Type 0 where
  whole : continues line ≡ false
  other : begins_with 108 (words (before_first is_hash line)) ≡ false

hash_other : (line : Bytes) → is_hash_line line ≡ true → IsOther line
hash_other [] is = cc is
hash_other (byte ∷ line) is = rw (eqb-true byte 35 is) (record { whole = and_right _ _ refl; other = refl })

letter_other : (letter : ℕ) (ws : Words) → is_blank letter ≡ false → eqb letter 108 ≡ false
    → IsLine (line_text letter ws) → ((k : ℕ) → k < length ws → IsWord (get_or ws k [])) → IsOther (line_text letter ws)
letter_other letter ws bare off line each = search (rules, no_continuation, tame_whole, line_words)

position_words : (position : Position) → is_position position ≡ true → (k : ℕ) → k < length (map micro_text position)
    → IsWord (get_or (map micro_text position) k [])
position_words position is = each_map IsWord micro_text position (pos 0) [] (λ k low. micro_word (get_or position k
    (pos 0)) (ltb-false _ _ (not-true _ (passes_at (λ z. not (is_far z)) position k (pos 0) (and_parts _ _ is).1 low))))

-- Lines say chains, and no line of theirs is refused.
record Gives (soup : FaceSet) (placed : List Placed) (chains : List (List ℕ)) : Type 0 where
  fails : flat_map (line_fails soup) placed ≡ []
  along : (d : ℕ) → list_any (λ chain. runs_along soup.faces chain d) (map (line_chain soup) placed)
      ≡ list_any (λ chain. runs_along soup.faces chain d) chains

module _ (soup : FaceSet) (all : ℕ) where
  gives_other : (p : Placed) (rest : List Placed) (chains : List (List ℕ)) → begins_with 108 (words p.line.text) ≡ false
      → Gives soup rest chains → Gives soup (p ∷ rest) chains
  gives_other p rest chains off gives = search rules

  pass : (chains : List (List ℕ)) (lines rest : Lines) → ((k : ℕ) → k < length lines → IsOther (get_or lines k []))
      → ((before n : ℕ) → Gives soup (placed_lines all before (lone_lines n rest)) chains) → (before n : ℕ)
      → Gives soup (placed_lines all before (lone_lines n (lines ++ rest))) chains
  pass chains [] rest each gives before n = gives before n
  pass chains (line ∷ lines) rest each gives before n = gives_other _ _ chains (each 0 (omega arith)).other (pass chains
      lines rest (λ k low. each (suc k) (omega (arith, low))) gives (before + vertex_lines_in (lone n line)) (n + 1))

  say : (chains : List (List ℕ)) (rest : Lines) → soup.names ≡ numbers_to (length soup.pos) → length soup.pos ≤ 2 ^ 21
      → length soup.pos ≤ all → ((k : ℕ) → k < length chains → IsChainOf soup (get_or chains k []))
      → ((before n : ℕ) → Gives soup (placed_lines all before (lone_lines n rest)) []) → (before n : ℕ)
      → Gives soup (placed_lines all before (lone_lines n (map chain_line chains ++ rest))) chains
  say [] rest names few many each gives before n = gives before n
  say (chain ∷ chains) rest names few many each gives before n =
      let line = lone n (chain_line chain) in
      let p : Placed = record { line = line; all = all; before = before } in
      let is = each 0 (omega arith) in
      let said = chain_said_law soup chain p names few many (tame_whole (chain_line chain) (chain_tame chain)
      ∙ sym (line_is chain)) is.long is.low is.edges in
      search (
        rules,
        say chains rest names few many (λ k low. each (suc k) (omega (arith, low))) gives
            (before + vertex_lines_in line) (n + 1),
      )

-- There are as many `v` lines as positions, or more.
count_more : (m : ℕ) (lines rest : Lines) → ((n : ℕ) → m ≤ count_by is_vertex_line (lone_lines n rest)) → (n : ℕ)
    → m ≤ count_by is_vertex_line (lone_lines n (lines ++ rest))
count_more m [] rest many n = many n
count_more m (line ∷ lines) rest many n = search (rules, sum_by-cons, count_more m lines rest many (n + 1))

count_positions : (ps : Positions) (rest : Lines) (n : ℕ) → list_all is_position ps ≡ true
    → length ps ≤ count_by is_vertex_line (lone_lines n (map position_line ps ++ rest))
count_positions [] rest n near = omega arith
count_positions (p ∷ ps) rest n near =
    let parts = and_parts (is_position p) (list_all is_position ps) near in
    let one : begins_with 118 (words (before_first is_hash (position_line p))) ≡ true =
    ap (λ (t : Bytes). begins_with 118 (words t)) (tame_whole (position_line p) (position_line_is p parts.0).tame)
    ∙ ap (begins_with 118) (line_words 118 (map micro_text p) refl (position_words p parts.0)) in
    let counted : vertex_lines_in (lone n (position_line p)) ≡ 1 = ap (λ t. cond t 1 0) one in
    search (rules, sum_by-cons, count_positions ps rest (n + 1) parts.1)

abbrev IsWhole : (line : Bytes) → Type 0
IsWhole line = continues line ≡ false

pub marks_again_law : MarksAgainLaw
marks_again_law front behind soup chains before after fine names each =
    let n = length soup.pos in
    let canonical = canonical_lines soup in
    let said = map chain_line chains in
    let all_lines = lines_of front ++ (canonical ++ (said ++ lines_of behind)) in
    let all = count_by is_vertex_line (lone_lines 1 all_lines) in
    let hashes = λ (text : Bytes) (is : AreHashLines text) (k : ℕ) (low : k < length (lines_of text)).
    hash_other (get_or (lines_of text) k []) (passes_at is_hash_line _ k [] is.hashes low) in
    let others : (k : ℕ) → k < length canonical → IsOther (get_or canonical k []) = each_both IsOther
    (map position_line soup.pos) _ [] (each_map IsOther position_line _ [] [] (λ k low.
    let is = passes_at is_position _ k [] fine.positions low in
    letter_other 118 _ refl refl (position_line_is (get_or soup.pos k []) is)
    (position_words _ is))) (each_map IsOther face_line _ [] [] (λ k low.
    let face = get_or soup.faces k [] in
    let below = passes_at (are_below n) _ k [] fine.soup.in_range low in
    letter_other 102 _ refl refl (face_line_is n face fine.few_vertices (passes_at _ soup.faces k [] fine.quads low)
    below) (each_map IsWord _ face 0 [] (λ k low.
    let less = ltb-true (get_or face k 0) n (passes_at _ face k 0 below low) in
    decimal_word _ (omega (arith, fine.few_vertices, less)))))) in
    let same = sym (flat_map-map (λ l. l ++ 10 ∷ []) chain_line chains) in
    let lines : lines_of (front ++ (canonical_text soup ++ (flat_map chain_text chains ++ behind))) ≡ all_lines =
    lines_append front _ before.ended ∙ ap (λ ls. lines_of front ++ ls) (lines_append (canonical_text soup) _
    (canonical_ends soup) ∙ (λ i. (ap lines_of (lines_text soup) ∙ lines_split canonical (lines_are _ fine)) i ++
    (lines_append (flat_map chain_text chains) behind (ap ends_line same ∙ ends_lines said)
    ∙ ap (λ ls. ls ++ lines_of behind) (ap lines_of same ∙ lines_back said (chains_inside _))) i)) in
    let whole = logical_lone 1 all_lines (each_both IsWhole _ _ [] (λ k low. (hashes front before k low).whole)
    (each_both IsWhole canonical _ [] (λ k low. (others k low).whole) (each_both IsWhole _ (lines_of behind) []
    (each_map IsWhole _ chains [] [] (λ k low. no_continuation (chain_line (get_or chains k [])) (chain_tame _)))
    (λ k low. (hashes behind after k low).whole)))) in
    let many = count_more n (lines_of front) (canonical ++ (said ++ lines_of behind))
    (λ k. rw (append_assoc _ (map face_line soup.faces) _) (count_positions soup.pos _ k fine.positions)) 1 in
    let gives = pass _ all _ (lines_of front) _ (hashes front before) (pass _ all _ canonical _ others
    (say soup _ chains (lines_of behind) names fine.few_vertices many each
    (λ b m. subst (λ (ls : Lines). Gives soup (placed_lines all b (lone_lines m ls)) []) (append-nil (lines_of behind))
    (pass _ all [] _ [] (hashes behind after) (λ c m. record { fails = refl; along = λ d. refl }) b m)))) 0 1 in
    ap (λ ls. marks_of soup (text_lines (logical_lines 1 ls))) lines ∙ (ap (λ ls. marks_of soup (text_lines ls)) whole
    ∙ (ap (λ fs. first_fail fs (marks_along soup.faces (map (line_chain soup) (text_lines (lone_lines 1 all_lines)))))
    gives.fails ∙ (λ i. Ok (map (λ d. is_some (twin_of soup.faces d) && gives.along d i) (all_darts soup.faces)))))
