-- What a benchmark measures of a layout.
use Rattle.std.specs.Prelude.{◌≡◌, ℤ, pos}
use Rattle.def_certtext.specs.CertLines.{Lists}
use Rattle.def_flow.specs.Admissible.{deviation, entries}
use Rattle.def_layout.specs.Layouts.{Layout, gluing_of}
use Rattle.def_remesh.specs.NewPoints.{lengths_in}
use Rattle.def_remesh.specs.Certified.{IsCertified}
use Rattle.def_remesh.specs.Remeshed.{AreCoarse}
use Rattle.def_run.specs.Bench.{bench_settings}
use Rattle.def_written.specs.Edges.{IsUndoubled}
use Rattle.def_remesh.specs.Tasks.{given_floors, old_lengths}

-- The deviation of lengths of a layout that are shown to be least and give a new mesh.
pub record IsKeptDeviation (layout : Layout) (told : ℤ) : Type 0 where
  pub cert : Lists
  pub certified : IsCertified old_lengths layout bench_settings (given_floors bench_settings) cert
  pub coarse : AreCoarse layout cert.x
  pub undoubled : IsUndoubled (gluing_of layout) (lengths_in cert.x)
  pub is : told ≡ pos (deviation certified.lengths.net (entries cert.x))
