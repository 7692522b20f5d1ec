-- What is written reads back.
use Rattle.std.specs.Prelude.{◌≡◌, ◌≤◌, ◌==◌, ◌&&◌, not, ℕ, ℤ, Bool, true, IsTrue, Ok, length, unsigned_abs}
use Rattle.std.specs.List.{list_all}
use Rattle.def_io.specs.Lines.{lines_of}
use Rattle.def_text.specs.Canonical.{canonical_text, micro_text}
use Rattle.def_text.specs.Decimal.{is_decimal, is_far, rounded}
use Rattle.def_mesh.specs.Faces.{Face}
use Rattle.def_text.specs.FaceSet.{FaceSet, IsSoup}
use Rattle.def_text.specs.Text.{numbers_to, text_soup}
use Rattle.def_text.specs.Types.{Position}
use Rattle.def_text.specs.declared.limits.TheConstants.{MAX_F_LINES, MAX_MICRO, MAX_V_LINES}

-- The canonical text of a number is a decimal whose value is that number.
abbrev pub CanonicalLaw : Type 0
CanonicalLaw = (z : ℤ) → unsigned_abs z ≤ MAX_MICRO → (is_decimal (micro_text z) ≡ true) × (rounded (micro_text z) ≡ z)

-- Three numbers within the range, as the type of a soup keeps them.
abbrev pub is_position : (position : Position) → Bool
is_position position = (length position == 3) && list_all (λ z. not (is_far z)) position

-- Four corners, as the type of a soup keeps them.
abbrev pub is_quad : (face : Face) → Bool
is_quad face = length face == 4

-- A soup that a text can have: its types hold, and its numbers are within the limits.
pub record IsWritableSoup (s : FaceSet) : Type 0 where
  pub soup : IsSoup s
  pub positions : IsTrue (list_all is_position s.pos)
  pub quads : IsTrue (list_all is_quad s.faces)
  pub few_vertices : length s.pos ≤ MAX_V_LINES
  pub few_faces : length s.faces ≤ MAX_F_LINES

-- The canonical text of such a soup has its positions and its faces, with file numbers from 1 in order.
abbrev pub ReadsBack : Type 0
ReadsBack = (s : FaceSet) → IsWritableSoup s
    → text_soup 1 (lines_of (canonical_text s))
    ≡ Ok (record { pos = s.pos; faces = s.faces; names = numbers_to (length s.pos) })
