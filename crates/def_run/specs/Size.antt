-- What `size` means: a remesh whose edges are to have a given length.
use Rattle.std.specs.Prelude.{◌≡◌, ℕ, ◌++◌, [], codes, decimal, None, ℤ, unsigned_abs}
use Rattle.def_certtext.specs.declared.certs.Rising.TheVariants.{Never}
use Rattle.def_cut.specs.Traced.{traced_marks}
use Rattle.def_io.specs.Bytes.{Bytes, Told}
use Rattle.def_layout.specs.Layouts.{Layout}
use Rattle.def_metric.specs.Fails.{AreNear, IsFar}
use Rattle.def_metric.specs.Targets.{edge_settings, targets}
use Rattle.def_remesh.specs.Tasks.{Task, Wish}
use Rattle.def_text.specs.Canonical.{micro_text}
use Rattle.def_text.specs.FaceSet.{FaceSet}
use Rattle.def_run.specs.Mesh.{IsMeshText}
use Rattle.def_run.specs.Remesh.{Asks, HasFinished, HoldsUntangled, IsTracedLayout, RefusesTask}
use Rattle.def_run.specs.declared.answer.Answer.{Answer}
use Rattle.def_run.specs.declared.answer.Answer.TheVariants.{Tangled, Far}

-- The head line: the length as it stands in a canonical text.
abbrev pub size_head : (edge : ℤ) (floor : ℕ) → Bytes
size_head edge floor = codes "#quadq 1 size edge " ++ micro_text edge ++ codes " floor " ++ decimal floor

-- The targets of the arcs of a soup.
abbrev pub soup_targets : (edge : ℤ) (soup : FaceSet) → Wish
soup_targets edge soup = targets soup.faces soup.pos (unsigned_abs edge)

-- A remesh of a soup over its motorcycle graph, with edges near this length.
abbrev pub size_task : (edge : ℤ) (floor : ℕ) (soup : FaceSet) → Task
size_task edge floor soup = record {
  marks = traced_marks soup.faces;
  wish = soup_targets edge soup;
  settings = edge_settings floor;
  rising = Never;
  head = size_head edge floor;
  between = λ layout new. [];
  shares = None;
}

abbrev pub AsksForSize : (edge : ℤ) (floor : ℕ) → Asks
AsksForSize edge floor bytes soup task = task ≡ size_task edge floor soup

-- The targets of the layout of the motorcycle graph add up to no more than the limit.
abbrev pub HasNearTargets : (edge : ℤ) (soup : FaceSet) → Type 0
HasNearTargets edge soup =
    (layout : Layout) → IsTracedLayout soup.faces layout → AreNear (soup_targets edge soup) layout

-- The task is asked where they do.
abbrev pub AsksForNearSize : (edge : ℤ) (floor : ℕ) → Asks
AsksForNearSize edge floor bytes soup task = AsksForSize edge floor bytes soup task × HasNearTargets edge soup

-- The bytes have a mesh, whose targets add up to this sum, which is too great.
pub record IsFarText (edge : ℤ) (floor : ℕ) (bytes : Bytes) (sum : ℕ) : Type 0 where
  pub soup : FaceSet
  pub mesh : IsMeshText bytes soup
  pub layout : Layout
  pub cut : IsTracedLayout soup.faces layout
  pub far : IsFar (soup_targets edge soup) layout (edge_settings floor) sum

-- The answer with which it refuses bytes. A network that is too tangled comes before targets that are too great, and
-- these before all that least lengths show.
abbrev pub RefusesSize : (edge : ℤ) (floor : ℕ) (bytes : Bytes) (answer : Answer) → Type 0
RefusesSize edge floor bytes (Far sum) = IsFarText edge floor bytes sum
RefusesSize edge floor bytes (Tangled count) = RefusesTask (AsksForSize edge floor) bytes (Tangled count)
RefusesSize edge floor bytes answer = RefusesTask (AsksForNearSize edge floor) bytes answer

-- The bytes have a mesh with targets that are not too great, which is remeshed whatever least lists are kept.
pub record HasSize (edge : ℤ) (floor : ℕ) (bytes : Bytes) : Type 0 where
  pub finished : HasFinished (AsksForSize edge floor) bytes
  pub near : HasNearTargets edge finished.soup

-- A source that holds a mesh with targets that are not too great, and with a network that is not too tangled.
pub record HoldsSize (edge : ℤ) (floor : ℕ) (left : Told) : Type 0 where
  pub held : HoldsUntangled (AsksForSize edge floor) left
  pub near : HasNearTargets edge held.soup
