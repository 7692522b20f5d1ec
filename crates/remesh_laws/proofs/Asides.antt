-- The lines of a text around its mesh: whole lines, and those that begin with `#` are passed over.
use Rattle.std.proofs.Common.{rules, ◌≡◌, ◌<◌, ◌≤◌, ◌^◌, ℕ, zero, suc, pos, Bool, true, false, List, [], ◌∷◌, ◌++◌}
use Rattle.std.proofs.Common.{codes, length, map, get_or, refl, sym, ◌∙◌, ap, subst, arith, length-append}
use Rattle.std.proofs.{lemmas.Bool.and_parts, lemmas.Fmt.length-decimal-le, lemmas.List.append-nil}
use Rattle.qm_obj.proofs.{TailLemmas.passes_at, SoupLemmas.are_below, LawSoup.text_lines}
use Rattle.std.specs.{Prelude.◌+◌, Prelude.◌-◌, Prelude.decimal, List.flat_map, List.list_all}
use Rattle.def_certtext.specs.Settings.{floor_text, AreInRange, IsFloor}
use Rattle.def_certtext.specs.{CertLines.line_text, CertLines.text_of, HeadLine.head_line, HeadLine.IsLastLine}
use Rattle.def_certtext.specs.{Reading.may_stand, declared.CertLine.CertLine, declared.certs.Rising.Rising}
use Rattle.def_flow.specs.declared.net.Settings.{Settings}
use Rattle.def_text.specs.{Canonical.canonical_text, FaceSet.FaceSet, Laws.is_quad, Laws.IsWritableSoup}
use Rattle.qm_certtext.proofs.Texts.{both_inside, lines_inside, number_inside, settings_inside, settings_line}
use Rattle.qm_obj.proofs.LawSoup.{canonical_lines, each_both, each_map, face_line, face_line_is, position_line_is}
use Rattle.qm_obj.proofs.LawText.{is_inside, lines_back, lines_split, no_continuation, IsLine}
use Rattle.{std.proofs.lemmas.List.Folds.flat_map-map, def_io.specs.Bytes.Bytes, def_io.specs.Bytes.Lines}
use Rattle.{def_io.specs.Lines.lines_of, def_text.specs.Logical.continues, def_remesh.specs.ReadAgain.ends_line}
use Rattle.{def_remesh.specs.Refined.refine_head, remesh_laws.specs.Asides.IsAside}
use Rattle.remesh_laws.specs.Asides.{IsPassedOver}
use Rattle.def_certtext.specs.declared.CertLine.TheVariants.{Floor, Length, Set, Vertex, Rise as RiseLine}
use Rattle.def_flow.specs.declared.net.Weight.TheVariants.{Plain, Length as ByLength}

-- Lines that are passed over.
abbrev pub ArePassed : (lines : Lines) → Type 0
ArePassed lines = (k : ℕ) → k < length lines → IsPassedOver (get_or lines k [])

-- ---- Whole lines.

-- A text is ended where its second part is, or where that is empty and the first part is ended.
ends_append : (front behind : Bytes) → ends_line front ≡ true → ends_line behind ≡ true → ends_line (front ++ behind)
    ≡ true
ends_append [] behind one two = two
ends_append (byte ∷ []) [] one two = one
ends_append (byte ∷ []) (next ∷ behind) one two = two
ends_append (byte ∷ next ∷ front) behind one two = ends_append (next ∷ front) behind one two

pub ends_last : (line : Bytes) → ends_line (line ++ 10 ∷ []) ≡ true
ends_last [] = refl
ends_last (byte ∷ []) = refl
ends_last (byte ∷ next ∷ line) = ends_last (next ∷ line)

pub ends_lines : (lines : Lines) → ends_line (flat_map (λ l. l ++ 10 ∷ []) lines) ≡ true
ends_lines [] = refl
ends_lines (line ∷ lines) = search (rules, ends_append, ends_last, ends_lines lines)

-- ---- The lines of the mesh.

pub canonical_ends : (soup : FaceSet) → ends_line (canonical_text soup) ≡ true
canonical_ends soup = ap ends_line (text_lines soup) ∙ ends_lines (canonical_lines soup)

module _ (soup : FaceSet) (is : IsWritableSoup soup) where
  -- They are lines.
  pub lines_are : (k : ℕ) → k < length (canonical_lines soup) → IsLine (get_or (canonical_lines soup) k [])
  lines_are = each_both IsLine _ _ [] (each_map IsLine _
      _ [] [] (λ k l. position_line_is _ (passes_at _ _ k [] is.positions l))) (each_map IsLine face_line soup.faces []
      [] (λ k l. face_line_is (length soup.pos) (get_or soup.faces k []) is.few_vertices (passes_at is_quad soup.faces k
      [] is.quads l) (passes_at (are_below (length soup.pos)) soup.faces k [] is.soup.in_range l)))

  -- No line is joined to one of them.
  pub canonical_whole : (k : ℕ) → k < length (lines_of (canonical_text soup))
      → continues (get_or (lines_of (canonical_text soup)) k []) ≡ false
  canonical_whole = rw (ap lines_of (text_lines soup) ∙ lines_split (canonical_lines soup) lines_are)
      (λ k l. no_continuation (get_or (canonical_lines soup) k []) (lines_are k l).tame)

-- ---- Lines that begin with `#`.

pub hash_passed : (line : Bytes) → get_or line 0 0 ≡ 35 → length line ≤ 65536 → IsPassedOver line
hash_passed [] begins short = absurd (omega (arith, begins))
hash_passed (byte ∷ line) begins short = search rules

-- A text of one line that ends no line has that line alone.
pub one_line : (line : Bytes) → list_all is_inside line ≡ true → lines_of (line ++ 10 ∷ []) ≡ line ∷ []
one_line line inside = ap lines_of (sym (append-nil (line ++ 10 ∷ []))) ∙ lines_back (line ∷ []) at
  where
    at : (k : ℕ) → k < 1 → list_all is_inside (get_or (line ∷ []) k []) ≡ true
    at zero l = inside
    at (suc k) l = absurd (omega (arith, l))

-- A text of one such line.
pub line_aside : (line : Bytes) → get_or line 0 0 ≡ 35 → list_all is_inside line ≡ true → length line ≤ 65536
    → IsAside (line ++ 10 ∷ [])
line_aside line begins inside short = search (rules, ends_last, one_line, hash_passed)

-- Nothing is a text of no such lines.
pub none_aside : IsAside []
none_aside = record { ended = refl; each = λ k l. absurd (omega (arith, l)) }

-- How long numbers are.
pub number_short : (n : ℕ) → n < 2 ^ 64 → length (decimal n) ≤ 20
number_short n low = length-decimal-le 20 n (omega arith) (omega arith) (omega (arith, low))

cert_passed : (rising : Rising) (line : CertLine) → may_stand rising line ≡ true → IsPassedOver (line_text line)
cert_passed rising (Length n) may = search (rules, number_short)
cert_passed rising (Vertex z up) may = hash_passed (line_text (Vertex z up)) refl
    (search (rules, length-append, number_short))
cert_passed rising (Set z up) may = hash_passed (line_text (Set z up)) refl
    (search (rules, length-append, number_short))
cert_passed rising (Floor floor) may = search (rules, number_short)
cert_passed rising (RiseLine rise) may = search (rules, length-append, number_short)

certs_passed : (rising : Rising) (said : List CertLine) → list_all (may_stand rising) said ≡ true → (k : ℕ) → k
    < length (map line_text said) → IsPassedOver (get_or (map line_text said) k [])
certs_passed rising [] all k low = absurd (omega (arith, low))
certs_passed rising (line ∷ said) all zero low = search (rules, cert_passed)
certs_passed rising (line ∷ said) all (suc k) low = certs_passed rising said
    (and_parts (may_stand rising line) (list_all (may_stand rising) said) all).1 k (omega (arith, low))

pub cert_lines_passed : (rising : Rising) (said : List CertLine) → list_all (may_stand rising) said ≡ true
    → ArePassed (lines_of (text_of said))
cert_lines_passed rising said all = subst ArePassed (sym (ap lines_of (sym (flat_map-map (λ l. l ++ 10 ∷ []) line_text
    said)) ∙ lines_back (map line_text said) (lines_inside rising said all))) (certs_passed rising said all)

-- ---- Head lines.

-- The word of a floor is short.
pub floor_short : (floor : ℕ) (auto : Bool) → IsFloor floor auto → length (floor_text floor auto) ≤ 20
floor_short floor true may = omega arith
floor_short floor false may = number_short floor (omega (arith, may.high))

-- A text of a line that ends with settings.
pub settings_aside : (front : Bytes) (settings : Settings) (auto : Bool)
    → get_or (settings_line front settings auto) 0 0 ≡ 35 → list_all is_inside front ≡ true
    → length front ≤ 64 → AreInRange settings auto → IsAside (settings_line front settings auto ++ 10 ∷ [])
settings_aside front settings auto begins inside few range = line_aside (settings_line front settings auto) begins
    (settings_inside front settings auto inside range) (search (rules, length-append, number_short))

pub head_aside : (settings : Settings) (auto : Bool) → AreInRange settings auto
    → IsAside (head_line settings auto ++ 10 ∷ [])
head_aside settings auto range = search (rules, settings_aside)

pub refine_aside : (by : ℕ) → by < 2 ^ 64 → IsAside (refine_head by)
refine_aside by low =
    let inside = both_inside (codes "#quadq 1 refine by ") (decimal by) refl (number_inside by low) in
    let short : length (codes "#quadq 1 refine by " ++ decimal by) ≤ 65536 = search (rules, number_short) in
    line_aside (codes "#quadq 1 refine by " ++ decimal by) refl inside short

-- The last line that begins in some way.

-- One line is the last that begins in some way.
pub one_last : (begins_so : Bytes → Bool) (lines : Lines) (i k : ℕ) → IsLastLine begins_so lines i
    → IsLastLine begins_so lines k → i ≡ k
one_last begins_so lines i k one two = search rules
