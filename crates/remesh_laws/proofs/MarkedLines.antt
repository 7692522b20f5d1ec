-- The lines of marked arcs: whole lines, of which none begins with `#`.
use Rattle.std.proofs.Common.{rules, ◌≡◌, ◌+◌, ◌/◌, ◌%◌, ◌<◌, ℕ, zero, suc, Bool, true, false, List, [], ◌∷◌, ◌++◌}
use Rattle.std.proofs.Common.{length, map, filter, get_or, ◌∙◌, ap, refl, arith, ◌↔◌, drop, slice_index_or}
use Rattle.std.proofs.{lemmas.Bool.and_from, lemmas.List.Folds.flat_map-map, lemmas.List.Folds.list_all-append}
use Rattle.std.specs.{Fmt.digit_glyph, Fmt.digits, Fmt.digits_onto, List.flat_map, List.list_all, List.range_with_len}
use Rattle.def_certtext.specs.Reading.{is_hash_line, Made, TellHow}
use Rattle.def_io.specs.{Bytes.Bytes, Bytes.Lines, Lines.lines_of, Lines.tail_of}
use Rattle.def_layout.specs.{Layouts.gluing_of, Layouts.Layout, Lengths.Lengths}
use Rattle.def_marks.specs.MarkedText.{arc_chain, arc_text, chain_text, is_marked_arc, marked_text}
use Rattle.def_remesh.specs.{ReadAgain.ends_line, TextLaws.made_by, TextLaws.PairLaw}
use Rattle.qm_obj.proofs.LawText.{is_inside, is_tame, lines_back, tame_inside}
use Rattle.remesh_laws.proofs.Tails.{first-drop, lines-tail, tail_behind}
use Rattle.{std.specs.Prelude.decimal, def_certtext.specs.Laws.TellsOnly, remesh_laws.proofs.Asides.ends_lines}
use Rattle.{remesh_laws.proofs.ReadAgain.told_law, remesh_laws.specs.Asides.IsSilent}

digits_tame : (k n : ℕ) (behind : Bytes) → list_all is_tame behind ≡ true
    → list_all is_tame (digits_onto k 10 false n behind) ≡ true
digits_tame zero n behind all = all
digits_tame (suc k) n behind all =
    let more : list_all is_tame (digit_glyph false (n % 10) ∷ behind) ≡ true = and_from _ _ (search rules) all in
    search (rules, digits_tame k (n / 10) (digit_glyph false (n % 10) ∷ behind) more)

-- The line of a chain, without its end.
abbrev pub chain_line : (chain : List ℕ) → Bytes
chain_line chain = 108 ∷ flat_map (λ vertex. 32 ∷ decimal (vertex + 1)) chain

words_tame : (chain : List ℕ) → list_all is_tame (flat_map (λ vertex. 32 ∷ decimal (vertex + 1)) chain) ≡ true
unfolding digits
words_tame [] = refl
words_tame (vertex ∷ chain) = list_all-append is_tame (32 ∷ decimal (vertex + 1))
    (flat_map (λ v. 32 ∷ decimal (v + 1)) chain) ∙ and_from _ _ (digits_tame 64 (vertex + 1) [] refl) (words_tame chain)

pub chain_tame : (chain : List ℕ) → list_all is_tame (chain_line chain) ≡ true
chain_tame chain = words_tame chain

pub chains_inside : (chains : List (List ℕ)) (k : ℕ) → k < length (map chain_line chains)
    → list_all is_inside (get_or (map chain_line chains) k []) ≡ true
chains_inside [] k low = absurd (omega (arith, low))
chains_inside (chain ∷ chains) zero low = tame_inside (chain_line chain) (chain_tame chain)
chains_inside (chain ∷ chains) (suc k) low = chains_inside chains k (omega (arith, low))

-- None begins with `#`.
chains_plain : (chains : List (List ℕ)) → filter is_hash_line (map chain_line chains) ≡ []
chains_plain [] = refl
chains_plain (chain ∷ chains) = chains_plain chains

module _ (marks : List Bool) (layout : Layout) (new : Lengths) where
  -- The lines of marked arcs are those of their chains.
  pub marked_is : (arcs : List ℕ) → flat_map (arc_text marks layout new) arcs
      ≡ flat_map chain_text (map (arc_chain (gluing_of layout) new) (filter (is_marked_arc marks layout) arcs))
  marked_is [] = refl
  marked_is (arc ∷ arcs) = search (rules, marked_is arcs)

  -- The chains of all marked arcs.
  abbrev pub marked_chains : List (List ℕ)
  marked_chains = map (arc_chain (gluing_of layout) new)
      (filter (is_marked_arc marks layout) (range_with_len 0 (length layout.arcs)))

  chains_text : marked_text marks layout new ≡ flat_map (λ l. l ++ 10 ∷ []) (map chain_line marked_chains)
  chains_text = search (rules, marked_is, flat_map-map)

  pub marked_lines : lines_of (marked_text marks layout new) ≡ map chain_line marked_chains
  marked_lines = ap lines_of chains_text ∙ lines_back (map chain_line marked_chains) (chains_inside marked_chains)

  pub marked_ended : ends_line (marked_text marks layout new) ≡ true
  marked_ended = ap ends_line chains_text ∙ ends_lines (map chain_line marked_chains)

  pub marked_silent : IsSilent (marked_text marks layout new)
  marked_silent = search (rules, marked_ended, marked_lines, chains_plain)

-- A text is a checked pair in one way: its lines from the head line on tell how the remesh was made, and no other way.

-- What a tail tells is what the last lines tell.
pub tail_told : (bytes : Bytes) (line : ℕ) (by : Made) → TellsOnly (tail_of line bytes) by → (made : Made)
    → TellHow (slice_index_or (lines_of bytes) line []) (drop (line + 1) (lines_of bytes)) made ↔ (made ≡ by)
tail_told bytes line by only made =
    let head : slice_index_or (lines_of (tail_of line bytes)) 0 [] ≡ slice_index_or (lines_of bytes) line [] = ap
    (λ (ls : Lines). slice_index_or ls 0 []) (lines-tail _ bytes) ∙ first-drop line (lines_of bytes) in
    let behind = tail_behind line bytes in
    rw (← head) (rw (← behind) (only made))

pub pair_law : PairLaw
pair_law bytes pair solid made = tail_told bytes pair.line (made_by pair.settings pair.auto pair.remeshed.certificates)
    (told_law pair.settings pair.auto pair.soup (tail_of pair.line bytes) pair.in_range solid pair.remeshed) made
