-- What `l` lines mark, computed on a small mesh.
use Rattle.std.proofs.Common.{◌≡◌, ℕ, Bool, true, false, List, [], ◌∷◌, ◌++◌, refl, Result, Ok, Err}
use Rattle.def_marks.specs.declared.fail.MarkFail.TheVariants.{NotEdge, Range, Syntax}
use Rattle.{std.specs.Prelude.codes, std.specs.Prelude.slice_set, std.specs.Prelude.replicate, def_io.specs.Bytes.Bytes}
use Rattle.{def_mesh.specs.Faces.Faces, def_text.specs.FaceSet.FaceSet, def_text.specs.Text.numbers_to}
use Rattle.{def_marks.specs.Lines.marks_in, def_marks.specs.declared.fail.MarkFail.MarkFail}

-- Two by two faces.
abbrev grid : Faces
grid = (0 ∷ 1 ∷ 4 ∷ 3 ∷ []) ∷ (1 ∷ 2 ∷ 5 ∷ 4 ∷ []) ∷ (3 ∷ 4 ∷ 7 ∷ 6 ∷ []) ∷ (4 ∷ 5 ∷ 8 ∷ 7 ∷ []) ∷ []

-- Marks of the grid, on at these darts.
abbrev marks_at : (darts : List ℕ) → List Bool
marks_at [] = replicate 16 false
marks_at (d ∷ ds) = slice_set (marks_at ds) d true

-- Nine `v` lines, the four faces of the grid, and another line, and what it marks there.
abbrev grid_soup : FaceSet
grid_soup = record { pos = []; faces = grid; names = numbers_to 9 }

abbrev said_by : (line : Bytes) → Result (List Bool) MarkFail
said_by line = marks_in (codes
    "v 0 0 0\nv\nv\nv\nv\nv\nv\nv\nv # a comment\nf 1 2 5 4\nf 2 3 6 5\nf 4 5 8 7\nf 5 6 9 8\n" ++ line) grid_soup

one_edge : said_by (codes "l 4 5") ≡ Ok (marks_at (2 ∷ 8 ∷ []))
one_edge = refl

-- Boundary edges are passed over.
joined_line : said_by (codes "l 1 4/7 \\\n-5/ +6 # 9\n") ≡ Ok (marks_at (2 ∷ 6 ∷ 8 ∷ 12 ∷ []))
joined_line = refl

no_edge : said_by (codes "l 5 4\nl 1 5\n") ≡ Err (NotEdge 15)
no_edge = refl

same_vertex : said_by (codes "l 4 4\n") ≡ Err (NotEdge 14)
same_vertex = refl

one_corner : said_by (codes "l 4\n") ≡ Err (Syntax 14)
one_corner = refl

two_slashes : said_by (codes "l 4 5/1/1\n") ≡ Err (Syntax 14)
two_slashes = refl

far_index : said_by (codes "l 4 10\n") ≡ Err (Range 14)
far_index = refl

back_index : said_by (codes "l -10 5\n") ≡ Err (Range 14)
back_index = refl
