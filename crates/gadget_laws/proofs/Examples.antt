-- Rows: matchings and lists tell each other, at matchings of least cost that another program found.
use Rattle.std.proofs.Common.{◌≡◌, ℕ, List, [], ◌∷◌, ℤ, negsuc, refl}
use Rattle.def_flow.proofs.NetworkExamples.{five_shapes}
use Rattle.gadget_laws.specs.{Box.matching_told, Told.lengths_told}
use Rattle.{def_matching.specs.Matching.matching_cost, def_flow.specs.MatchingGraph.matching_graph}

-- At the list xs the matching m tells the list ys, at this cost, and ys, with so many units on, tells a matching, which
-- tells ys again.
abbrev Tells : (step : ℕ) (xs m ys js : List ℕ) (cost : ℤ) → Type 0
Tells step xs m ys js cost = (lengths_told five_shapes step xs m ≡ ys)
    × (matching_cost (matching_graph five_shapes step xs) m ≡ cost)
    × (lengths_told five_shapes step xs (matching_told five_shapes step xs js) ≡ ys)

-- Arcs of all shapes, with the lone vertex: 20 away where the lows are 39.
with_lone : Tells 1 (2 ∷ 1 ∷ 1 ∷ 4 ∷ 2 ∷ 2 ∷ 2 ∷ []) (3 ∷ 10 ∷ 18 ∷ 27 ∷ 35 ∷ 48 ∷ 65 ∷ 71 ∷ 78 ∷ 94 ∷ 99 ∷ 109 ∷ 129 ∷
    140 ∷ 143 ∷ 152 ∷ 165 ∷ 170 ∷ 175 ∷ 179 ∷ 187 ∷ 195 ∷ 205 ∷ 209 ∷ 213 ∷ 215 ∷ 218 ∷ 220 ∷ 223 ∷ []) (4 ∷ 2 ∷ 2 ∷ 5
    ∷ 2 ∷ 1 ∷ 1 ∷ []) (3 ∷ 1 ∷ 1 ∷ 3 ∷ 1 ∷ 0 ∷ 0 ∷ []) (negsuc 18)
with_lone = (refl, refl, refl)

-- Without it, and with units of two: 26 away where the lows are 30.
without_lone : Tells 2 (2 ∷ 1 ∷ 1 ∷ 3 ∷ 2 ∷ 1 ∷ 1 ∷ []) (2 ∷ 10 ∷ 20 ∷ 29 ∷ 36 ∷ 42 ∷ 49 ∷ 55 ∷ 62 ∷ 69 ∷ 79 ∷ 88 ∷ 98
    ∷ 105 ∷ 108 ∷ 111 ∷ 118 ∷ 126 ∷ 130 ∷ 132 ∷ 135 ∷ []) (2 ∷ 1 ∷ 1 ∷ 3 ∷ 2 ∷ 1 ∷ 1 ∷ []) (0 ∷ 0 ∷ 0 ∷ 1 ∷ 0 ∷ 0 ∷ 0 ∷
    []) (negsuc 3)
without_lone = (refl, refl, refl)

-- At a least list: 20 away where the lows are 32.
least : Tells 1 (4 ∷ 2 ∷ 2 ∷ 5 ∷ 2 ∷ 1 ∷ 1 ∷ []) (3 ∷ 11 ∷ 30 ∷ 42 ∷ 44 ∷ 57 ∷ 73 ∷ 88 ∷ 105 ∷ 111 ∷ 118 ∷ 126 ∷ 133 ∷
    144 ∷ 154 ∷ 174 ∷ 177 ∷ 198 ∷ 204 ∷ 217 ∷ 234 ∷ 239 ∷ 241 ∷ 256 ∷ 259 ∷ 263 ∷ 265 ∷ 268 ∷ []) (4 ∷ 2 ∷ 2 ∷ 5 ∷ 2 ∷
    1 ∷ 1 ∷ []) (2 ∷ 1 ∷ 1 ∷ 2 ∷ 1 ∷ 0 ∷ 0 ∷ []) (negsuc 11)
least = (refl, refl, refl)
