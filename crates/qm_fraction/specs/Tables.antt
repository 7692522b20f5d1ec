-- What the tables of a fraction have to keep, so that each place that is looked at is there.
use Rattle.std.specs.Prelude.{ℕ, ◌<◌, length}
use Rattle.qm_fraction.specs.declared.exits.Exits.{Exits}
use Rattle.qm_fraction.specs.declared.ends.Step.{Step}

-- How many exits there are.
abbrev pub exit_count : (exits : Exits) → ℕ
exit_count exits = length exits.all.items

-- A step leads between vertices.
abbrev pub IsStepWithin : (n : ℕ) (step : Step) → Type 0
IsStepWithin n step = (step.inner < n) × (step.above < n)
