-- Breaks, starts and cuts, computed on small meshes.
use Rattle.std.proofs.Common.{◌≡◌, ℕ, Bool, true, false, not, List, [], ◌∷◌, map, length, refl, Some}
use Rattle.std.specs.{Prelude.filter, Prelude.slice_set, Prelude.replicate, List.range_with_len}
use Rattle.def_mesh.specs.{Faces.Faces, Darts.to_of}
use Rattle.def_cut.specs.{declared.graph.Stop.Stop, declared.graph.Stop.TheVariants.Boundary}
use Rattle.def_cut.specs.declared.moving.Moving.{Moving}
use Rattle.def_feature.specs.{Marks.is_break, Marked.marked_starts, Marked.marked_last, Marked.marked_cut}

-- Two by two faces.
abbrev grid : Faces
grid = (0 ∷ 1 ∷ 4 ∷ 3 ∷ []) ∷ (1 ∷ 2 ∷ 5 ∷ 4 ∷ []) ∷ (3 ∷ 4 ∷ 7 ∷ 6 ∷ []) ∷ (4 ∷ 5 ∷ 8 ∷ 7 ∷ []) ∷ []

-- So many marks, on at these darts.
abbrev marks_at : (n : ℕ) (darts : List ℕ) → List Bool
marks_at n [] = replicate n false
marks_at n (d ∷ ds) = slice_set (marks_at n ds) d true

-- The edge from the middle to the west alone: it breaks in the middle, and three riders leave there.
abbrev west : List Bool
west = marks_at 16 (2 ∷ 8 ∷ [])

west_breaks : filter (is_break grid west) (range_with_len 0 9) ≡ 4 ∷ []
west_breaks = refl

west_starts : map (to_of grid) (marked_starts grid west) ≡ 1 ∷ 7 ∷ 5 ∷ []
west_starts = refl

west_stops : map (λ (r : Moving). r.stop) (marked_last grid west).riders ≡ Some (Boundary 1) ∷ Some (Boundary 7) ∷ Some
    (Boundary 5) ∷ []
west_stops = refl

west_cut : filter not (marked_cut grid west) ≡ []
west_cut = refl

-- The line from west to east: no rider starts, and the cut is the rim and that line.
abbrev through : List Bool
through = marks_at 16 (2 ∷ 8 ∷ 6 ∷ 12 ∷ [])

through_starts : marked_starts grid through ≡ []
through_starts = refl

through_cut : length (filter not (marked_cut grid through)) ≡ 4
through_cut = refl

-- A torus of four by four faces.
abbrev torus : Faces
torus =
    (0 ∷ 1 ∷ 5 ∷ 4 ∷ []) ∷
    (1 ∷ 2 ∷ 6 ∷ 5 ∷ []) ∷
    (2 ∷ 3 ∷ 7 ∷ 6 ∷ []) ∷
    (3 ∷ 0 ∷ 4 ∷ 7 ∷ []) ∷
    (4 ∷ 5 ∷ 9 ∷ 8 ∷ []) ∷
    (5 ∷ 6 ∷ 10 ∷ 9 ∷ []) ∷
    (6 ∷ 7 ∷ 11 ∷ 10 ∷ []) ∷
    (7 ∷ 4 ∷ 8 ∷ 11 ∷ []) ∷
    (8 ∷ 9 ∷ 13 ∷ 12 ∷ []) ∷
    (9 ∷ 10 ∷ 14 ∷ 13 ∷ []) ∷
    (10 ∷ 11 ∷ 15 ∷ 14 ∷ []) ∷
    (11 ∷ 8 ∷ 12 ∷ 15 ∷ []) ∷
    (12 ∷ 13 ∷ 1 ∷ 0 ∷ []) ∷
    (13 ∷ 14 ∷ 2 ∷ 1 ∷ []) ∷
    (14 ∷ 15 ∷ 3 ∷ 2 ∷ []) ∷
    (15 ∷ 12 ∷ 0 ∷ 3 ∷ []) ∷ []

-- A closed run that is marked whole breaks at its least vertex, one with two gaps at the ends of its pieces.
abbrev ring : List Bool
ring = marks_at 64 (16 ∷ 20 ∷ 24 ∷ 28 ∷ 2 ∷ 6 ∷ 10 ∷ 14 ∷ [])

ring_breaks : filter (is_break torus ring) (range_with_len 0 16) ≡ 4 ∷ []
ring_breaks = refl

broken_breaks : filter (is_break torus (marks_at 64 (16 ∷ 20 ∷ 2 ∷ 6 ∷ []))) (range_with_len 0 16) ≡ 4 ∷ 6 ∷ []
broken_breaks = refl
