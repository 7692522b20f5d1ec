-- What `bench` means: it reads nothing and remeshes a mesh that is made from a number.
use Rattle.std.specs.Prelude.{◌≡◌, ℕ, length, pos, ⊤}
use Rattle.def_certtext.specs.CertLines.{Lists}
use Rattle.def_certtext.specs.declared.certs.Rising.TheVariants.{Never}
use Rattle.def_flow.specs.Admissible.{deviation, entries}
use Rattle.def_flow.specs.declared.net.Settings.{Settings}
use Rattle.def_flow.specs.declared.net.Weight.TheVariants.{Plain}
use Rattle.def_gen.specs.Steps.{steps_soup}
use Rattle.def_io.specs.Bytes.{Bytes}
use Rattle.def_layout.specs.Layouts.{Layout, gluing_of}
use Rattle.def_mesh.specs.Components.{edge_count, start_darts}
use Rattle.def_mesh.specs.Faces.{Faces}
use Rattle.def_mesh.specs.Faults.{IsFirstFault}
use Rattle.def_mesh.specs.Manifold.{IsManifold}
use Rattle.def_mesh.specs.Vertices.{vertex_count}
use Rattle.def_remesh.specs.NewPoints.{lengths_in}
use Rattle.def_remesh.specs.Certified.{IsCertified}
use Rattle.def_remesh.specs.Remeshed.{AreCoarse}
use Rattle.def_report.specs.BenchLine.{bench_line}
use Rattle.def_report.specs.declared.Counts.{Counts}
use Rattle.def_written.specs.Edges.{IsUndoubled}
use Rattle.def_remesh.specs.Refusals.{IsLayoutFail, IsRemeshable}
use Rattle.def_remesh.specs.declared.kept.LayoutFail.{LayoutFail}
use Rattle.def_remesh.specs.declared.kept.LayoutFail.TheVariants as layout_fail
use Rattle.def_run.specs.Remesh.{IsTracedLayout, RefusesLayout}
use Rattle.def_run.specs.declared.answer.Answer.{Answer}
use Rattle.def_run.specs.declared.answer.Answer.TheVariants.{NotManifold}
use Rattle.def_remesh.specs.Tasks.{given_floors, old_lengths}

-- Half of the old lengths, at least 1, all arcs alike.
abbrev pub bench_settings : Settings
bench_settings = record { p = 1; q = 2; floor = 1; weight = Plain }

-- The faces of the mesh of a size.
abbrev pub bench_faces : (size : ℕ) → Faces
bench_faces size = (steps_soup size).faces

-- What is counted of a mesh and its layout. The deviation is that of a certificate's lengths.
abbrev pub counts_of : (faces : Faces) (layout : Layout) (deviation : ℕ) → Counts
counts_of faces layout deviation = record {
  vertices = vertex_count faces;
  edges = edge_count faces;
  faces = length faces;
  riders = length (start_darts faces);
  patches = length layout.patches;
  arcs = length layout.arcs;
  deviation = pos deviation;
}

-- It writes this text: the line of the mesh of this size, with the deviation of lengths that are shown to be least and
-- give a new mesh.
pub record WritesBench (size : ℕ) (text : Bytes) : Type 0 where
  pub manifold : IsManifold (bench_faces size)
  pub layout : Layout
  pub cut : IsTracedLayout (bench_faces size) layout
  pub cert : Lists
  pub certified : IsCertified old_lengths layout bench_settings (given_floors bench_settings) cert
  pub coarse : AreCoarse layout cert.x
  pub undoubled : IsUndoubled (gluing_of layout) (lengths_in cert.x)
  pub said : text
      ≡ bench_line size (counts_of (bench_faces size) layout (deviation certified.lengths.net (entries cert.x)))

-- It refuses a size with this answer: the mesh is no manifold, or its layout is refused.
abbrev pub RefusesToBench : (size : ℕ) (answer : Answer) → Type 0
RefusesToBench size (NotManifold place) =
    IsFirstFault (bench_faces size) place × (¬ IsManifold (bench_faces size))
RefusesToBench size answer =
    (layout : Layout) × IsTracedLayout (bench_faces size) layout
    × RefusesLayout old_lengths layout bench_settings Never answer

-- Why the mesh of a size is not remeshed. Want of memory says nothing of it.
abbrev pub IsBenchFail : (size : ℕ) (failed : LayoutFail) → Type 0
IsBenchFail size layout_fail.Memory = ⊤
IsBenchFail size failed =
    (layout : Layout) × IsTracedLayout (bench_faces size) layout
    × IsLayoutFail old_lengths layout bench_settings Never failed

-- The mesh of this size is remeshed whatever least lists are kept.
pub record HasBench (size : ℕ) : Type 0 where
  pub manifold : IsManifold (bench_faces size)
  pub fits : (layout : Layout) → IsTracedLayout (bench_faces size) layout
      → IsRemeshable old_lengths layout bench_settings Never
