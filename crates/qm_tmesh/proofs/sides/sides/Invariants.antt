use Rattle.std.proofs.Common.{◌≡◌, ℕ, ◌<◌, [], map, length, get_or}
use Rattle.def_cut.specs.Grids.{rectangle, patch_at}
use Rattle.{def_layout.specs.Arcs.path, qm_tmesh.specs.Four.AreFour, qm_tmesh.specs.Four.four_of}

-- the patches so far have their sides
abbrev pub invariant-loop-patch : Rattle.qm_tmesh.proofs.sides.sides.Given.invariant-loop-patch
invariant-loop-patch l = record {
  count : length l.sides.items ≡ l.patch-index;
  each : (p : ℕ) → p < l.patch-index → AreFour l.mesh (map path l.runs.arcs.items) l.runs.uses.items
      (patch_at (map rectangle l.patches) p) (get_or (map four_of l.sides.items) p []);
}
