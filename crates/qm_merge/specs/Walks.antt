-- Walks along the sides of patches.
use Rattle.std.specs.Prelude.{◌≡◌, ℕ, zero, suc, true, false}
use Rattle.def_mesh.specs.HalfEdges.{HalfEdges}
use Rattle.def_cut.specs.Cuts.{Cut}
use Rattle.def_cut.specs.Steps.{step_east, easts}
use Rattle.def_merge.specs.Joins.{IsWholeSide}

-- Corner d comes after corner c round its patch.
abbrev pub IsNextCorner : (mesh : HalfEdges) (cut : Cut) (c d : ℕ) → Type 0
IsNextCorner mesh cut c d = (k : ℕ) × IsWholeSide mesh cut c (suc k) × (d ≡ mesh.next (easts mesh c k))

-- Dart d, the twin of the dart at place n of a side, begins a patch's side or goes straight on to `far`, the twin
-- before.
abbrev pub LeadsOn : (mesh : HalfEdges) (cut : Cut) (d n far : ℕ) → Type 0
LeadsOn mesh cut d zero far = cut (mesh.next d) ≡ true
LeadsOn mesh cut d (suc n) far = (cut (mesh.next d) ≡ false) × (step_east mesh d ≡ far)
