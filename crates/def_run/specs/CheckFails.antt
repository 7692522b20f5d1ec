-- Why `check` accepts nothing.
use Rattle.std.specs.Prelude.{◌≢◌, ℕ, ⊤}
use Rattle.def_io.specs.Bytes.{Bytes}
use Rattle.def_mesh.specs.Faults.{IsFirstFault}
use Rattle.def_mesh.specs.Manifold.{IsManifold}
use Rattle.def_mesh.specs.declared.Place.{Place}
use Rattle.def_remesh.specs.Checked.{IsCheckedPair}
use Rattle.def_run.specs.Check.{HasOldSoup, IsNotAccepted, IsTangledOld, RefusesOldText}
use Rattle.def_run.specs.Checking.{ByText}
use Rattle.def_run.specs.MapFails.{IsMapFail}
use Rattle.def_text.specs.FaceSet.{FaceSet}
use Rattle.def_text.specs.declared.refusal.ObjFail.TheVariants as obj_fail
use Rattle.def_run.specs.declared.check_fail.CheckFail.{CheckFail}
use Rattle.def_run.specs.declared.check_fail.CheckFail.TheVariants as check_fail

-- The old text has this soup, whose faces are no manifold, first at this place.
pub record HasOldFault (bytes : Bytes) (soup : FaceSet) (place : Place) : Type 0 where
  pub line : ℕ
  pub old : HasOldSoup bytes line soup
  pub fault : IsFirstFault soup.faces place
  pub refuted : ¬ IsManifold soup.faces

-- What each refusal of a remesh says. All but want of memory say that the bytes are no checked pair.
abbrev pub IsPairFail : (bytes : Bytes) (fail : CheckFail) → Type 0
IsPairFail bytes (check_fail.NotAccepted why) = IsNotAccepted bytes why × (¬ IsCheckedPair bytes)
IsPairFail bytes (check_fail.Old fail) = RefusesOldText bytes fail × (fail ≢ obj_fail.Memory) × (¬ IsCheckedPair bytes)
IsPairFail bytes (check_fail.NotManifold place soup) = HasOldFault bytes soup place × (¬ IsCheckedPair bytes)
IsPairFail bytes (check_fail.Tangled count) = IsTangledOld bytes count × (¬ IsCheckedPair bytes)
IsPairFail bytes check_fail.Memory = ⊤
IsPairFail bytes _ = ⊥

-- What each refusal says: of a text of `fit` what `map` says of it.
abbrev pub IsCheckFail : (bytes : Bytes) (fail : CheckFail) → Type 0
IsCheckFail bytes fail = ByText bytes (IsMapFail bytes fail) (IsPairFail bytes fail)
