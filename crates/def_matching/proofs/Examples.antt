-- Worked rows: the definitions computed.
use Rattle.std.proofs.Common.{◌≡◌, ℕ, List, [], ◌∷◌, ℤ, pos, negsuc, refl}
use Rattle.def_matching.specs.declared.weighted.Verdict.TheVariants.{Yes, Shape, Even, Negative, Short}
use Rattle.def_matching.specs.{Matching.WeightedGraph, Matching.matching_cost, Dual.DualLists, Dual.verdict}

-- Two triangles and a dear edge between them.
abbrev triangles : WeightedGraph
triangles = record {
  n = 6;
  edges = record { u = 0; v = 1; cost = pos 0 } ∷ record { u = 1; v = 2; cost = pos 0 }
      ∷ record { u = 2; v = 0; cost = pos 0 } ∷ record { u = 3; v = 4; cost = pos 0 } ∷ record {
        u = 4;
        v = 5;
        cost =
            pos 0;
      } ∷ record { u = 5; v = 3; cost = pos 0 } ∷ record { u = 0; v = 3; cost = pos 10 } ∷ [];
}

abbrev with_sets : List ℤ → List ℕ → DualLists
with_sets z up = record { y = pos 0 ∷ pos 0 ∷ pos 0 ∷ pos 0 ∷ pos 0 ∷ pos 0 ∷ []; z = z; up = up }

pub only_matching : matching_cost triangles (1 ∷ 4 ∷ 6 ∷ []) ≡ pos 10
only_matching = refl

pub one_triangle : verdict triangles (with_sets (pos 20 ∷ []) (1 ∷ 1 ∷ 1 ∷ 0 ∷ 0 ∷ 0 ∷ 0 ∷ [])) ≡ Yes (pos 20)
one_triangle = refl

pub two_vertices : verdict triangles (with_sets (pos 20 ∷ []) (1 ∷ 1 ∷ 0 ∷ 0 ∷ 0 ∷ 0 ∷ 0 ∷ [])) ≡ Even 0 2
two_vertices = refl

pub below_nothing : verdict triangles (with_sets (negsuc 0 ∷ []) (1 ∷ 1 ∷ 1 ∷ 0 ∷ 0 ∷ 0 ∷ 0 ∷ [])) ≡ Negative 0
below_nothing = refl

pub both_triangles : verdict triangles (with_sets (pos 20 ∷ pos 20 ∷ []) (1 ∷ 1 ∷ 1 ∷ 2 ∷ 2 ∷ 2 ∷ 0 ∷ 0 ∷ []))
    ≡ Short 6 (pos 40) (pos 20)
both_triangles = refl

pub five_numbers : verdict triangles (record {
  y = pos 0 ∷ pos 0 ∷ pos 0 ∷ pos 0 ∷ pos 0 ∷ [];
  z = [];
  up =
      0 ∷ 0 ∷ 0 ∷ 0 ∷ 0 ∷ 0 ∷ [];
}) ≡ Shape 6
five_numbers = refl
