-- Lines around a mesh that a reader of meshes passes over, and those that no certificate has.
use Rattle.std.specs.Prelude.{◌≡◌, ◌≤◌, ◌<◌, ℕ, true, false, [], length, slice_index_or}
use Rattle.std.specs.List.{filter}
use Rattle.def_certtext.specs.Reading.{is_hash_line}
use Rattle.def_io.specs.Bytes.{Bytes}
use Rattle.def_io.specs.Lines.{lines_of}
use Rattle.def_remesh.specs.ReadAgain.{ends_line}
use Rattle.def_text.specs.Logical.{continues, part_of}
use Rattle.def_text.specs.Reading.{begins_with}
use Rattle.def_text.specs.Words.{words}
use Rattle.def_text.specs.declared.letters.TheConstants.{FACE, VERTEX}
use Rattle.def_text.specs.declared.limits.TheConstants.{MAX_LINE}

-- A line that is not too long, to which the next line is not joined, and which is neither a `v` line nor an `f` line.
pub record IsPassedOver (line : Bytes) : Type 0 where
  pub short : length line ≤ MAX_LINE
  pub whole : continues line ≡ false
  pub no_vertex : begins_with VERTEX (words (part_of line)) ≡ false
  pub no_face : begins_with FACE (words (part_of line)) ≡ false

-- Whole lines of this kind.
pub record IsAside (text : Bytes) : Type 0 where
  pub ended : ends_line text ≡ true
  pub each : (k : ℕ) → k < length (lines_of text) → IsPassedOver (slice_index_or (lines_of text) k [])

-- Whole lines of which none begins with `#`.
pub record IsSilent (text : Bytes) : Type 0 where
  pub ended : ends_line text ≡ true
  pub plain : filter is_hash_line (lines_of text) ≡ []
