-- What is kept of a small text, computed with more bytes behind it.
use Rattle.std.proofs.Common.{◌≡◌, ◌++◌, ℕ, pos, List, [], ◌∷◌, Err, refl}
use Rattle.def_text.specs.declared.refusal.ObjFail.TheVariants.{Range, Syntax}
use Rattle.{std.specs.Prelude.codes, def_text.specs.Text.soup_in, def_feed.specs.Kept.KeptText}
use Rattle.def_feed.specs.Kept.{soup_with}

-- A text that is cut within its third physical line.
prefix : List ℕ
prefix = codes "v 0 0 0\r\nf 1 1 \\\n1 "

half : KeptText
half = record {
  positions = (pos 0 ∷ pos 0 ∷ pos 0 ∷ []) ∷ [];
  faces = [];
  lines = [];
  next = 3;
  begun = 2;
  joined = codes "f 1 1  ";
  tail = codes "1 ";
}

whole_row : soup_with half (codes "1\n") ≡ soup_in (prefix ++ codes "1\n")
unfolding prefix half
whole_row = refl

split_row : soup_with half (codes "\\\r\n1#") ≡ soup_in (prefix ++ codes "\\\r\n1#")
unfolding prefix half
split_row = refl

late_row : soup_with half (codes "2\nf -1 1 1 1") ≡ Err (Range 2)
unfolding half
late_row = refl

refused_row : soup_with half (codes "1\n\nv 1") ≡ Err (Syntax 5)
unfolding half
refused_row = refl
