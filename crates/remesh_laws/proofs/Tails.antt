-- The lines of the tail of a text are its last lines.
use Rattle.std.proofs.Common.{rules, ◌≡◌, ℕ, zero, suc, ◌+◌, [], ◌∷◌, drop, map, slice_index_or, refl, sym, ◌∙◌, ap}
use Rattle.std.proofs.Common.{arith, true, ◌++◌, length}
use Rattle.std.proofs.lemmas.List.{drop-drop, drop-map, get_or-drop, length-map, map-append}
use Rattle.{std.proofs.Math.Seq.drop-append_seam, std.specs.List.flat_map, def_remesh.specs.ReadAgain.ends_line}
use Rattle.def_io.specs.{Bytes.Bytes, Bytes.Lines, Lines.pieces, Lines.line_of, Lines.lines_of, Lines.tail_of}

-- The pieces joined are the text.
pub flat-pieces : (bs : Bytes) → flat_map (λ p. p) (pieces bs) ≡ bs
flat-pieces [] = refl
flat-pieces (b ∷ bs) = search (rules, flat-pieces bs)

-- Cutting the last pieces, joined, gives them back.
pieces-drop : (i : ℕ) (bs : Bytes) → pieces (flat_map (λ p. p) (drop i (pieces bs))) ≡ drop i (pieces bs)
pieces-drop zero bs = ap pieces (flat-pieces bs)
pieces-drop (suc i) [] = refl
pieces-drop (suc i) (b ∷ bs) = search (rules, pieces-drop i bs, pieces-drop (suc i) bs)

pub lines-tail : (i : ℕ) (bs : Bytes) → lines_of (tail_of i bs) ≡ drop i (lines_of bs)
lines-tail i bs = ap (map line_of) (pieces-drop i bs) ∙ sym (drop-map line_of i (pieces bs))

-- Its first line is the line where it begins.
pub first-drop : (i : ℕ) (lines : Lines) → slice_index_or (drop i lines) 0 [] ≡ slice_index_or lines i []
first-drop i lines = get_or-drop i lines 0 [] ∙ ap (λ (n : ℕ). slice_index_or lines n []) (omega arith)

-- The lines of the tail behind its first are the later ones.
pub tail_behind : (i : ℕ) (bs : Bytes) → drop 1 (lines_of (tail_of i bs)) ≡ drop (i + 1) (lines_of bs)
tail_behind i bs = ap (λ (ls : Lines). drop 1 ls) (lines-tail i bs) ∙ drop-drop 1 i (lines_of bs)

-- The lines of two texts behind each other, of which the first ends with a line feed.

-- A byte stands in front of the first piece, whatever is behind.
pieces_append : (bytes rest : Bytes) → ends_line bytes ≡ true → pieces (bytes ++ rest) ≡ pieces bytes ++ pieces rest
pieces_append [] rest ends = refl
pieces_append (byte ∷ []) rest ends = rw ends refl
pieces_append (byte ∷ next ∷ bytes) rest ends = search (rules, pieces_append (next ∷ bytes) rest ends)

-- The lines are those of both.
pub lines_append : (old text : Bytes) → ends_line old ≡ true → lines_of (old ++ text) ≡ lines_of old ++ lines_of text
lines_append old text ends = ap (map line_of) (pieces_append old _ ends) ∙ map-append _ _ _

-- The tail behind the lines of the first is the second.
pub tail_append : (old text : Bytes) → ends_line old ≡ true → tail_of (length (lines_of old)) (old ++ text) ≡ text
tail_append old text ends = ap (λ n. tail_of n (old ++ text)) (length-map (pieces old) line_of)
    ∙ (ap (λ (ps : Lines). flat_map (λ p. p) (drop (length (pieces old)) ps)) (pieces_append old text ends)
    ∙ (ap (flat_map (λ p. p)) (drop-append_seam (pieces old) (pieces text)) ∙ flat-pieces text))
