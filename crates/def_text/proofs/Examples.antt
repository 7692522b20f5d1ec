-- The definitions computed on small texts.
use Rattle.std.proofs.Common.{◌≡◌, ◌++◌, ℕ, pos, negsuc, List, [], ◌∷◌, Ok, Err, refl, map, true, false}
use Rattle.def_text.specs.{Canonical.micro_text, Decimal.is_decimal, Decimal.rounded, Text.text_soup, Words.words}
use Rattle.def_text.specs.declared.refusal.ObjFail.TheVariants.{NotQuad, Range, Syntax}
use Rattle.{std.specs.Prelude.codes, std.specs.Fmt.digits}

words_row : words (codes " v\t1  2.5 ") ≡ codes "v" ∷ codes "1" ∷ codes "2.5" ∷ []
words_row = refl

micro_row : map micro_text (pos 1000000 ∷ pos 500000 ∷ pos 0 ∷ pos 1 ∷ negsuc 12339999 ∷ []) ≡ codes "1" ∷ codes "0.5"
    ∷ codes "0" ∷ codes "0.000001" ∷ codes "-12.34" ∷ []
unfolding digits
micro_row = refl

quad : List (List ℕ)
quad = codes "# a quad" ∷ codes "v 0 0 0" ∷ codes "v 9 9 9" ∷ codes "v 1 0 -0.5" ∷ codes "v 1 1 0" ∷ codes "v 0 1 0"
    ∷ codes "f 1 3 4 5" ∷ []

soup_row : text_soup 1 quad ≡ Ok (record {
  pos = (pos 0 ∷ pos 0 ∷ pos 0 ∷ []) ∷ (pos 1000000 ∷ pos 0 ∷ negsuc 499999 ∷ [])
      ∷ (pos 1000000 ∷ pos 1000000 ∷ pos 0 ∷ []) ∷ (pos 0 ∷ pos 1000000 ∷ pos 0 ∷ []) ∷ [];
  faces = (0 ∷ 1 ∷ 2 ∷ 3 ∷ []) ∷ [];
  names = 1 ∷ 3 ∷ 4 ∷ 5 ∷ [];
})
unfolding quad
soup_row = refl

zero_row : text_soup 1 (quad ++ codes "f 1 3 4 0" ∷ []) ≡ Err (Range 8)
unfolding quad
zero_row = refl

-- A late index gives way to a later line of another form, and comes where there is none.
late_row : text_soup 1 (quad ++ codes "f 1 3 4 9" ∷ codes "v 1 2" ∷ []) ≡ Err (Syntax 9)
unfolding quad
late_row = refl

last_row : text_soup 1 (quad ++ codes "f 1 3 4 9" ∷ codes "vn 1 2" ∷ []) ≡ Err (Range 8)
unfolding quad
last_row = refl

corners_row : text_soup 1 (codes "f 1 2 3 # 4" ∷ []) ≡ Err (NotQuad 1 3)
corners_row = refl

-- A face over two physical lines, before the places that it names, and the same face with indices that count back.
square : List (List ℕ)
square = codes "v 0 0 0" ∷ codes "v 1 0 0 1" ∷ codes "v 1 1 0 .5 .5 .5" ∷ codes "v 0 1 0" ∷ []

joined_row : text_soup 1 (codes "f 1 2 \\" ∷ codes "3 4" ∷ square)
    ≡ text_soup 1 (square ++ codes "f -4/1 -3//2 -2/1/2 -1/" ∷ [])
unfolding square
joined_row = refl

joined_refusal_row : text_soup 1 (codes "v 1 2 \\" ∷ codes "3 \\" ∷ codes "x" ∷ codes "f 1" ∷ []) ≡ Err (Syntax 1)
joined_refusal_row = refl

-- The table of decimals, with shorter exponents.
decimals_row : map rounded (codes "1." ∷ codes ".5" ∷ codes "-0" ∷ codes "1.5e-7" ∷ codes "0.0000005" ∷ codes
    "-12.340000" ∷ codes "0e99" ∷ codes "-0.0000015" ∷ codes "+12E+2" ∷ codes "1e-99" ∷ []) ≡ pos 1000000 ∷ pos 500000
    ∷ pos 0 ∷ pos 0 ∷ pos 1 ∷ negsuc 12339999 ∷ pos 0 ∷ negsuc 1 ∷ pos 1200000000 ∷ pos 0 ∷ []
decimals_row = refl

forms_row : map is_decimal (codes "1." ∷ codes ".5" ∷ codes "+.5e+7" ∷ codes "1E-07" ∷ []) ≡ true ∷ true ∷ true ∷ true
    ∷ []
forms_row = refl

no_forms_row : map is_decimal (codes "nan" ∷ codes "inf" ∷ codes "1,5" ∷ [] ∷ codes "." ∷ codes "-" ∷ codes "1e"
    ∷ codes "1e+" ∷ codes "1.2.3" ∷ codes "e5" ∷ codes "1e5.0" ∷ codes "--1" ∷ [])
    ≡ false ∷ false ∷ false ∷ false ∷ false ∷ false ∷ false ∷ false ∷ false ∷ false ∷ false ∷ false ∷ []
no_forms_row = refl
