-- Lines that go straight on, as loops find them.
use Rattle.std.specs.Prelude.{◌≡◌, ◌⊎◌, ◌||◌, ℕ, zero, suc, ◌<◌, Bool, true, false, List, length, Option, Some, None}
use Rattle.def_mesh.specs.Faces.{Faces}
use Rattle.def_mesh.specs.Darts.{darts}
use Rattle.def_cut.specs.FullCut.{is_on}
use Rattle.def_runs.specs.Runs.{follower}

-- n steps lead from s to d.
abbrev pub From : (faces : Faces) (s d n : ℕ) → Type 0
From faces s d zero = s ≡ d
From faces s d (suc n) = (c : ℕ) × From faces s c n × (c < darts faces) × (follower faces c ≡ Some d)

-- What follows a dart that is led is led, but for one dart.
abbrev pub IsClosedBut : (faces : Faces) (led : List Bool) (at : ℕ) → Type 0
IsClosedBut faces led at = (x e : ℕ) → is_on led x ≡ true → follower faces x ≡ Some e → (is_on led e ≡ true) ⊎ (x ≡ at)

-- And for none.
abbrev pub IsClosed : (faces : Faces) (led : List Bool) → Type 0
IsClosed faces led = (x e : ℕ) → is_on led x ≡ true → follower faces x ≡ Some e → is_on led e ≡ true

-- The line from s is led as well.
pub record IsLedFrom (faces : Faces) (s : ℕ) (old new : List Bool) : Type 0 where
  pub long : length new ≡ length old
  pub closed : IsClosed faces new
  pub kept : (d : ℕ) → is_on old d ≡ true → is_on new d ≡ true
  pub there : is_on new s ≡ true
  pub sound : (d : ℕ) → is_on new d ≡ true → (is_on old d ≡ true) ⊎ ((n : ℕ) × From faces s d n)

-- As far as `at`.
pub record IsLeading (faces : Faces) (s : ℕ) (old now : List Bool) (at : ℕ) : Type 0 where
  pub long : length now ≡ length old
  pub low : at < darts faces
  pub closed : IsClosedBut faces now at
  pub kept : (d : ℕ) → is_on old d ≡ true → is_on now d ≡ true
  pub there : is_on now s ≡ true
  pub sound : (d : ℕ) → is_on now d ≡ true → (is_on old d ≡ true) ⊎ ((n : ℕ) × From faces s d n)
  pub from : (n : ℕ) × From faces s at n

-- The dart that follows and is not led yet.
abbrev pub IsNext : (faces : Faces) (led : List Bool) (at : ℕ) (found : Option ℕ) → Type 0
IsNext faces led at None = (e : ℕ) → follower faces at ≡ Some e → is_on led e ≡ true
IsNext faces led at (Some e) = (follower faces at ≡ Some e) × (e < darts faces) × (is_on led e ≡ false)

-- All darts are led that sources below n lead to.
pub record AreLed (faces : Faces) (sources led : List Bool) (n : ℕ) : Type 0 where
  pub long : length led ≡ darts faces
  pub closed : IsClosed faces led
  pub there : (d : ℕ) → d < n → is_on sources d ≡ true → is_on led d ≡ true
  pub sound : (d : ℕ) → is_on led d ≡ true
      → (s : ℕ) × (s < darts faces) × (is_on sources s ≡ true) × (n : ℕ) × From faces s d n

-- Whether an edge lies at the boundary or is led in either direction.
abbrev pub is_led_edge : (led : List Bool) (d : ℕ) (twin : Option ℕ) → Bool
is_led_edge led d None = true
is_led_edge led d (Some t) = is_on led d || is_on led t
