-- The definitions computed on small numbers.
use Rattle.std.proofs.Common.{◌≡◌, pos, [], ◌∷◌, length, refl}
use Rattle.def_gen.specs.Steps.{block_height, steps_soup}

heights_row : block_height 1 0 ∷ block_height 2 0 ∷ block_height 2 1 ∷ [] ≡ 7 ∷ 7 ∷ 6 ∷ []
heights_row = refl

counts_row : length (steps_soup 1).pos ∷ length (steps_soup 1).faces ∷ length (steps_soup 2).pos
    ∷ length (steps_soup 2).faces ∷ [] ≡ 32 ∷ 21 ∷ 53 ∷ 39 ∷ []
counts_row = refl
