use Rattle.std.proofs.Common.{◌≡◌, ℕ, ◌<◌, Some, get_or}
use Rattle.def_mesh.specs.Darts.{twin_of}

-- the twins so far are greater
abbrev pub invariant-loop-d : Rattle.qm_tmesh.proofs.names.is_least.Given.invariant-loop-d
invariant-loop-d l = (k t : ℕ) → k < l.d-index → twin_of l.mesh (get_or l.run k 0) ≡ Some t → l.name < t
