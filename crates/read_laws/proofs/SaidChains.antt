-- An `l` line that is written for a chain says that chain, where it is read.
use Rattle.std.proofs.Common.{◌≡◌, ◌+◌, ◌^◌, ◌<◌, ◌≤◌, ℕ, suc, true, false, not, List, [], ◌∷◌, length}
use Rattle.std.proofs.Common.{rules, map, get_or, refl, sym, ap, ◌∙◌, arith, eqb, ltb}
use Rattle.std.proofs.lemmas.Bool.{and_from, and_parts, cond-false, eq-eqb, le-ltb, or_from}
use Rattle.std.proofs.lemmas.List.{append-nil, drop_all, length-map, take_all}
use Rattle.std.proofs.{lemmas.Fmt.decimal_nonempty, lemmas.List.Folds.flat_map-map, lemmas.List.Sums.position_or_len_is}
use Rattle.std.specs.{Char.is_ascii_digit, List.after_first, List.list_all, List.list_any, Prelude.decimal}
use Rattle.def_io.specs.{Bytes.Bytes, Bytes.Lines, Lines.lines_of}
use Rattle.def_marks.specs.Lines.{corner_fails, corner_index, is_line_corner, is_nothing, named_chain, named_vertex}
use Rattle.def_marks.specs.{Chains.link_at, MarkedText.chain_text}
use Rattle.def_readlaws.specs.ReadChains.{ChainSaidLaw}
use Rattle.def_text.specs.Corner.{index_of, is_optional, is_out, is_slash, resolved, used_index}
use Rattle.def_text.specs.Digits.{is_negative, is_number, is_signed, number_written, unsigned}
use Rattle.def_text.specs.{Text.numbers_to, Words.words, declared.index.Index.TheVariants.Vertex}
use Rattle.qm_dec.proofs.ReadBack.{decimal_digits, decimal_number, digit_other, digits_fail, none_first}
use Rattle.qm_obj.proofs.{LawText.decimal_word, LawText.IsWord, LawText.line_words, LawText.lines_back}
use Rattle.qm_obj.proofs.{LawSoup.each_map, LawSoup.vertex_word, SoupLemmas.length-numbers_to, SoupLemmas.numbers_at}
use Rattle.remesh_laws.proofs.MarkedLines.{chain_line, chains_inside}

-- What a number says as a corner of an `l` line.
record IsCornerOf (word : Bytes) (n : ℕ) : Type 0 where
  corner : is_line_corner word ≡ true
  index : (all before : ℕ) → n ≤ all → corner_index all before word ≡ Vertex n

number_corner : (n : ℕ) → 0 < n → n < 2 ^ 64 → IsCornerOf (decimal n) n
number_corner n some small = by_word (decimal n) (decimal_digits n small) (decimal_nonempty n small)
    (decimal_number n small)
  where
    by_word : (word : Bytes) → list_all is_ascii_digit word ≡ true → 0 < length word → number_written word ≡ n
        → IsCornerOf word n
    by_word [] all long value = absurd (omega (arith, long))
    by_word (b ∷ bs) all long value =
        let word : Bytes = b ∷ bs in
        let bare = none_first is_slash word (digits_fail is_slash (digit_other 47 (omega arith)) word all) in
        let used : used_index word ≡ word = take_all _ _ (omega (arith, bare)) in
        let rest : after_first is_slash word ≡ [] = drop_all _ word (omega (arith, bare)) in
        let digit = (and_parts _ _ all).0 in
        let minus : is_negative word ≡ false = digit_other 45 (omega arith) b digit in
        let whole : unsigned word ≡ word = search rules in
        let written : number_written (unsigned word) ≡ n = ap number_written whole ∙ value in
        let names : (before : ℕ) → resolved before word ≡ n = λ before. cond-false _ _ _ minus ∙ written in
        let inside : (before : ℕ) → is_out before word ≡ false = search rules in
        record {
          corner = and_from _ _ (ap is_signed used ∙ ap is_number whole ∙ all) (ap is_optional rest);
          index = λ many before low. ap (index_of many before) used ∙ (cond-false _ _ _
              (ap not (ap is_number whole ∙ all)) ∙ (cond-false _ _ _ (or_from _ _ (inside before)
              (ap (ltb many) (names before) ∙ le-ltb many n low)) ∙ ap Vertex (names before)));
        }

-- The number of a vertex names it.
named_is : (n v : ℕ) → v < n → named_vertex (numbers_to n) (Vertex (v + 1)) ≡ v
named_is n v low = position_or_len_is (λ name. eqb name (v + 1)) (numbers_to n) v 0
    (omega (arith, low, length-numbers_to n)) (search (rules, numbers_at)) (λ _. eq-eqb _ _ (numbers_at n v low))

-- What the words of a chain say.
record AreCornersOf (n all before : ℕ) (chain : List ℕ) : Type 0 where
  corners : list_all is_line_corner (map vertex_word chain) ≡ true
  known : list_any (λ word. is_nothing (corner_index all before word)) (map vertex_word chain) ≡ false
  named : named_chain (numbers_to n) all before (map vertex_word chain) ≡ chain

chain_corners : (n all before : ℕ) → n < 2 ^ 32 → n ≤ all → (chain : List ℕ)
    → ((k : ℕ) → k < length chain → link_at chain k < n) → AreCornersOf n all before chain
chain_corners n all before few many [] low = record { corners = refl; known = refl; named = refl }
chain_corners n all before few many (v ∷ chain) low =
    let here : v < n = low 0 (omega arith) in
    let one : IsCornerOf (decimal (v + 1)) (v + 1) = number_corner (v + 1) (omega arith) (omega (arith, here, few)) in
    search (rules, named_is, chain_corners n all before few many chain (λ k less. low (suc k) (omega (arith, less))))

-- The line of a chain.
pub line_is : (chain : List ℕ) → get_or (lines_of (chain_text chain)) 0 [] ≡ chain_line chain
line_is chain = ap (λ (ls : Lines). get_or ls 0 []) (ap lines_of (sym (append-nil (chain_text chain)))
    ∙ lines_back (map chain_line (chain ∷ [])) (chains_inside (chain ∷ [])))

pub chain_said_law : ChainSaidLaw
chain_said_law soup chain placed names few many line long low edges =
    let ws = map vertex_word chain in
    let said = chain_corners (length soup.pos) placed.all placed.before (omega (arith, few)) many chain low in
    let fails : corner_fails soup placed.all placed.before placed.line.number ws ≡ [] = cond-false _ _ _
    (or_from _ _ (le-ltb (length ws) 2 (omega (arith, long, length-map chain vertex_word))) (ap not said.corners))
    ∙ (search rules) in
    let read : words placed.line.text ≡ (108 ∷ []) ∷ ws = ap words (line ∙ line_is chain)
    ∙ (ap (λ (bytes : Bytes). words (108 ∷ bytes)) (sym (flat_map-map (λ w. 32 ∷ w) vertex_word chain))
    ∙ line_words 108 ws refl (each_map IsWord vertex_word chain 0 [] (search (rules, decimal_word)))) in search rules
