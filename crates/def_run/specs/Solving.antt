-- The commands that solve, and the sources for which they find least lengths.
use Rattle.std.specs.Prelude.{ℕ}
use Rattle.def_io.specs.Bytes.{Told}
use Rattle.def_layout.specs.Layouts.{Layout}
use Rattle.def_mesh.specs.Manifold.{IsManifold}
use Rattle.def_remesh.specs.Refusals.{IsTangledAt}
use Rattle.def_remesh.specs.Tasks.{old_lengths}
use Rattle.def_run.specs.Bench.{bench_faces, bench_settings}
use Rattle.def_run.specs.Coarse.{AsksToMerge}
use Rattle.def_run.specs.Crease.{HoldsMarked}
use Rattle.def_run.specs.Fit.{HoldsFit}
use Rattle.def_run.specs.Remesh.{AsksToRemesh, HoldsUntangled, IsTracedLayout}
use Rattle.def_run.specs.Size.{HoldsSize}
use Rattle.def_run.specs.declared.command.Command.{Command}
use Rattle.def_run.specs.declared.command.Command.TheVariants.{Remesh, Bench, Crease, Size, Coarse, Fit}

-- The mesh of this size has a network that is not too tangled.
pub record IsUntangledBench (size : ℕ) : Type 0 where
  pub manifold : IsManifold (bench_faces size)
  pub untangled : (layout : Layout) → IsTracedLayout (bench_faces size) layout → (count : ℕ)
      → ¬ IsTangledAt old_lengths layout bench_settings count

-- A source that holds what a command solves, with a network that is not too tangled.
abbrev pub IsUntangled : (command : Command) (left : Told) → Type 0
IsUntangled (Remesh settings auto) left = HoldsUntangled (AsksToRemesh settings auto) left
IsUntangled (Bench size) left = IsUntangledBench size
IsUntangled (Crease settings) left = HoldsMarked settings left
IsUntangled (Size edge floor) left = HoldsSize edge floor left
IsUntangled (Coarse settings) left = HoldsUntangled (AsksToMerge settings) left
IsUntangled (Fit fit) left = HoldsFit fit left
IsUntangled _ left = ⊥
