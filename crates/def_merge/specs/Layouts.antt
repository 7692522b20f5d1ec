-- Joinable arcs of a layout.
use Rattle.std.specs.Prelude.{◌≡◌, ◌≢◌}
use Rattle.def_layout.specs.Surfaces.{IsOtherSlot}
use Rattle.def_layout.specs.Gluings.{IsSlot, Gluing, Slot}

-- One arc is the whole of a side of one patch and the whole of a side of another.
pub record IsJoinableAt (gluing : Gluing) (one other : Slot) : Type 0 where
  pub slot : IsSlot gluing one
  pub across : IsOtherSlot gluing one other
  pub alone : gluing.many one.patch one.side ≡ 1
  pub alone_across : gluing.many other.patch other.side ≡ 1
  pub apart : one.patch ≢ other.patch
