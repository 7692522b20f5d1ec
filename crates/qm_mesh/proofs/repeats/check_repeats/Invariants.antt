use Rattle.std.proofs.Common.{◌≡◌, ℕ, ◌<◌, get_or, [], None}
use Rattle.def_mesh.specs.Faults.{repeat_in}

-- No earlier face names a vertex twice.
abbrev pub invariant-loop-f : Rattle.qm_mesh.proofs.repeats.check_repeats.Given.invariant-loop-f
invariant-loop-f l = (g : ℕ) → g < l.f → repeat_in (get_or l.quads.faces.now g []) ≡ None
