-- Wish lines that are read and refused, and the wishes that are left for a quad.
use Rattle.std.proofs.Common.{◌≡◌, ◌∷◌, [], Some, None, refl}
use Rattle.def_fit.specs.WishLines.{edge_wishes, wish_words, wished_by}
use Rattle.{std.specs.Prelude.codes, def_mesh.specs.Faces.Faces}

plain : wished_by (wish_words (codes "#w 3 12 1500")) ≡ Some (record { u = 3; v = 12; wish = 1500 })
plain = refl

nothing_wished : wished_by (wish_words (codes "#w 3 12 0")) ≡ Some (record { u = 3; v = 12; wish = 0 })
nothing_wished = refl

leading_zero : wished_by (wish_words (codes "#w 3 012 5")) ≡ None
leading_zero = refl

no_vertex : wished_by (wish_words (codes "#w 0 1 5")) ≡ None
no_vertex = refl

two_blanks : wished_by (wish_words (codes "#w 3  12 5")) ≡ None
two_blanks = refl

behind : wished_by (wish_words (codes "#w 3 12 5 ")) ≡ None
behind = refl

abbrev quad : Faces
quad = (0 ∷ 1 ∷ 2 ∷ 3 ∷ []) ∷ []

-- The last wish of an edge counts, whichever way round it is named.
last_wins : edge_wishes quad (record { u = 0; v = 1; wish = 5 } ∷ record { u = 2; v = 1; wish = 7 } ∷ record {
  u =
      1;
  v = 0;
  wish = 9;
} ∷ [])
    ≡ 9 ∷ 7 ∷ 1000 ∷ 1000 ∷ []
last_wins = refl
