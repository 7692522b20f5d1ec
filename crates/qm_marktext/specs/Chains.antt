-- The vertices along an arc, by its ends and by how many vertices come before its inner points.
use Rattle.std.specs.Prelude.{ℕ, ◌+◌, ◌-◌, List, [], ◌∷◌, ◌++◌, map}
use Rattle.std.specs.List.{range_with_len}

abbrev pub chain_from : (first before length last : ℕ) → List ℕ
chain_from first before length last = first ∷ map (λ k. before + k) (range_with_len 0 (length - 1)) ++ last ∷ []
