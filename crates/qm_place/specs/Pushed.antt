-- Lists that grow at their end.
use Rattle.std.specs.Prelude.{◌≡◌, ℕ, ◌+◌, ◌-◌, ◌*◌, ◌<◌, ◌≤◌, Bool, cond, not, List, length, slice_index}
use Rattle.def_layout.specs.declared.tmesh.SideArc.{SideArc}
use Rattle.def_written.specs.Places.{ONE, ArcSpacing}

-- Behind the old list stand so many numbers.
pub record ArePushed (old new : List ℕ) (many : ℕ) (value : ℕ → ℕ) : Type 0 where
  pub long : length new ≡ length old + many
  pub kept : (k : ℕ) → k < length old → slice_index new k ≡ slice_index old k
  pub each : (k : ℕ) → k < many → slice_index new (length old + k) ≡ value k

-- The old list stands in front of the new one.
pub record IsKept (old new : List ℕ) : Type 0 where
  pub long : length old ≤ length new
  pub kept : (k : ℕ) → k < length old → slice_index new k ≡ slice_index old k

-- The parameter of a place of an arc on a side: so many old edges lie before the arc, counted from the same end.
abbrev pub on_arc : (spacing : ArcSpacing) (before new : ℕ) (used : SideArc) (back : Bool) (offset : ℕ) → ℕ
on_arc spacing before new used back offset =
    ONE * before + spacing.parameter_of used.arc (cond back (not used.forward) used.forward)
    (cond back (new - offset) offset)
