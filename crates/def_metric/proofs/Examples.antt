-- Roots of numbers with known answers, and the targets of the four edges of a quad.
use Rattle.std.proofs.Common.{◌≡◌, ◌-◌, ◌^◌, [], ◌∷◌, map, pos, refl}
use Rattle.{def_metric.specs.Roots.root_of, def_metric.specs.Targets.target_of, def_text.specs.Types.Positions}

root_of_two : root_of 2 ≡ 1
root_of_two = refl

root_of_trillion : root_of (10 ^ 12) ≡ 10 ^ 6
root_of_trillion = refl

root_of_greatest : root_of (2 ^ 128 - 1) ≡ 2 ^ 64 - 1
root_of_greatest = refl

-- The quad (0, 0), (3, 0), (3, 4), (0, 8).
abbrev places : Positions
places = (pos 0 ∷ pos 0 ∷ pos 0 ∷ []) ∷ (pos 3000000 ∷ pos 0 ∷ pos 0 ∷ [])
    ∷ (pos 3000000 ∷ pos 4000000 ∷ pos 0 ∷ []) ∷ (pos 0 ∷ pos 8000000 ∷ pos 0 ∷ []) ∷ []

targets_of_quad : map (λ dart. target_of ((0 ∷ 1 ∷ 2 ∷ 3 ∷ []) ∷ []) places 1000000 (dart ∷ [])) (0 ∷ 1 ∷ 2 ∷ 3 ∷ [])
    ≡ 3000 ∷ 4000 ∷ 5000 ∷ 8000 ∷ []
targets_of_quad = refl
