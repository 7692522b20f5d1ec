-- The text that a source gives.
use Rattle.std.specs.Prelude.{◌≡◌, ◌≢◌, ◌≤◌, ℕ, length, Ok, Err, ⊤}
use Rattle.def_io.specs.Bytes.{Bytes, Told}
use Rattle.def_io.specs.Faults.{Rose}
use Rattle.def_io.specs.Moves.{Change, gave, GaveMore, IsEmptied}
use Rattle.def_text.specs.FaceSet.{FaceSet}
use Rattle.def_text.specs.Text.{soup_in}
use Rattle.def_text.specs.declared.refusal.ObjFail.{ObjFail}
use Rattle.def_text.specs.declared.refusal.ObjFail.TheVariants.{Memory as ObjMemory}
use Rattle.def_text.specs.declared.refusal.SoupFail.{SoupFail}
use Rattle.def_text.specs.declared.refusal.SoupFail.TheVariants.{Fault, TooLong, Obj, Memory}

-- The source gave these bytes, at most so many, and then ended.
pub record ReadWhole (limit : ℕ) (before now : Told) (bytes : Bytes) : Type 0 where
  pub given : before ≡ gave bytes now
  pub ended : IsEmptied now
  pub few : length bytes ≤ limit

-- The source gave a text with this soup.
pub record ReadSoup (limit : ℕ) (before now : Told) (soup : FaceSet) : Type 0 where
  pub bytes : Bytes
  pub whole : ReadWhole limit before now bytes
  pub said : soup_in bytes ≡ Ok soup

-- The source gave a text whose first refusal is this.
pub record ReadRefused (limit : ℕ) (before now : Told) (fail : ObjFail) : Type 0 where
  pub bytes : Bytes
  pub whole : ReadWhole limit before now bytes
  pub said : soup_in bytes ≡ Err fail

-- Why a source gave no soup. Without a fault its count stays.
abbrev pub IsSoupFail : (limit : ℕ) (source : Change) (fail : SoupFail) → Type 0
IsSoupFail limit source Fault = Rose source.faults source.faults_now
IsSoupFail limit source TooLong =
    GaveMore limit source.told source.told_now × (source.faults_now ≡ source.faults)
IsSoupFail limit source (Obj fail) =
    ReadRefused limit source.told source.told_now fail × (fail ≢ ObjMemory) × (source.faults_now ≡ source.faults)
IsSoupFail limit source Memory = ⊤
