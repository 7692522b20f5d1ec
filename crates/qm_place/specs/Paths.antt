-- The shares of the old edges of an arc.
use Rattle.std.specs.Prelude.{ℕ, Bool, cond, List, slice_index, slice_index_or}
use Rattle.def_remesh.specs.declared.limits.TheConstants.{EDGE_SHARE}

-- The share of a dart.
abbrev pub share_on : (shares : List ℕ) (dart : ℕ) → ℕ
share_on shares dart = slice_index_or shares dart EDGE_SHARE

-- The share of each of these darts, or as much for each.
abbrev pub share_by : (darts shares : List ℕ) (alike : Bool) → ℕ → ℕ
share_by darts shares alike = cond alike (λ edge. 1) (λ edge. share_on shares (slice_index darts edge))
