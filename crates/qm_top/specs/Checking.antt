-- What `check` does with the bytes that it read.
use Rattle.std.specs.Prelude.{◌≡◌, ◌≢◌, ⊤}
use Rattle.def_io.specs.Bytes.{Bytes}
use Rattle.def_mesh.specs.Faults.{IsFirstFault}
use Rattle.def_remesh.specs.declared.kept.LayoutFail.TheVariants as layouts
use Rattle.def_run.specs.Check.{IsNotAccepted, IsTangledOld, RefusesOldText}
use Rattle.def_run.specs.Checking.{ByText}
use Rattle.def_text.specs.FaceSet.{FaceSet}
use Rattle.def_text.specs.declared.refusal.ObjFail.TheVariants as obj
use Rattle.def_text.specs.declared.refusal.SoupFail.TheVariants as soup
use Rattle.def_run.specs.CheckFails.{HasOldFault}
use Rattle.def_run.specs.declared.check_fail.CheckFail.{CheckFail}
use Rattle.def_run.specs.declared.check_fail.CheckFail.TheVariants as check_fail
use Rattle.qm_top.specs.Mapping.{IsNoMapFor}
use Rattle.qm_top.specs.declared.named.NamedPlace.{NamedPlace}
use Rattle.qm_top.specs.declared.refusal.Refusal.{Refusal}
use Rattle.qm_top.specs.declared.refusal.Refusal.TheVariants.{NotAccepted, Soup, NotManifold, Layout}
use Rattle.qm_top.specs.declared.refusal.Refusal.TheVariants as refusals

-- A place that a text is refused for is the first fault of the faces of its soup.
abbrev pub IsPlaced : (fail : CheckFail) → Type 0
IsPlaced (check_fail.NotManifold place soup) = IsFirstFault soup.faces place
IsPlaced _ = ⊤

-- The faces of the old text are no manifold, first at this place, with the numbers of the old text.
pub record NamesOldFault (bytes : Bytes) (named : NamedPlace) : Type 0 where
  pub old : FaceSet
  pub fault : HasOldFault bytes old named.place
  pub numbers : named.names.items ≡ old.names

-- Why bytes are no pair, where there is memory.
abbrev pub IsNoPairFor : (bytes : Bytes) (refusal : Refusal) → Type 0
IsNoPairFor bytes (NotAccepted why) = IsNotAccepted bytes why
IsNoPairFor bytes (Soup (soup.Obj fail)) = RefusesOldText bytes fail × (fail ≢ obj.Memory)
IsNoPairFor bytes (NotManifold named) = NamesOldFault bytes named
IsNoPairFor bytes (Layout (layouts.Tangled count)) = IsTangledOld bytes count
IsNoPairFor bytes refusals.Memory = Unit {0}
IsNoPairFor bytes _ = ⊥

-- Why nothing is accepted.
abbrev pub IsUnaccepted : (bytes : Bytes) (refusal : Refusal) → Type 0
IsUnaccepted bytes refusal = ByText bytes (IsNoMapFor bytes refusal) (IsNoPairFor bytes refusal)
