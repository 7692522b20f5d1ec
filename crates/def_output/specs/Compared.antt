-- A text that is compared with bytes that are given.
use Rattle.std.specs.Prelude.{◌≡◌, ◌≢◌, ℕ, ◌+◌, [], ◌∷◌, ◌++◌, length, ⊤}
use Rattle.def_io.specs.Bytes.{Bytes}

-- How many bytes were alike, and the given ones that are left.
pub record Compared : Type 0 where
  pub at : ℕ
  pub rest : Bytes

-- A text came that is alike.
pub record IsAlike (before now : Compared) (text : Bytes) : Type 0 where
  pub alike : before.rest ≡ text ++ now.rest
  pub counted : now.at ≡ before.at + length text

-- The bytes end, or begin with another byte.
abbrev pub LacksFirst : (byte : ℕ) (bytes : Bytes) → Type 0
LacksFirst byte [] = ⊤
LacksFirst byte (other ∷ bytes) = byte ≢ other

-- A text came that is alike up to a place, where the given bytes end or have another byte.
pub record Differs (before now : Compared) (text : Bytes) : Type 0 where
  pub prefix : Bytes
  pub byte : ℕ
  pub more : Bytes
  pub said : text ≡ prefix ++ byte ∷ more
  pub alike : before.rest ≡ prefix ++ now.rest
  pub lacks : LacksFirst byte now.rest
  pub counted : now.at ≡ before.at + length prefix
