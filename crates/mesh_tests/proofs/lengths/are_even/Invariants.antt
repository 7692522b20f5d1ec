use Rattle.std.proofs.Common.{◌<◌, ℕ}
use Rattle.{def_layout.specs.Layouts.gluing_of, def_remesh.specs.NewPoints.lengths_in, mesh_tests.specs.Fits.AreEven}

abbrev pub invariant-loop-patch : Rattle.mesh_tests.proofs.lengths.are_even.Given.invariant-loop-patch
invariant-loop-patch l = (patch : ℕ) → patch < l.patch → AreEven (gluing_of l.cut.layout) (lengths_in l.lengths) patch
