-- What the tables of a start have to keep, so that each place that is looked at is there.
use Rattle.std.specs.Prelude.{ℕ, ◌*◌, ◌<◌, List}
use Rattle.std.specs.List.{All}
use Rattle.std.specs.declared.cmp.Reverse.{Reverse}
use Rattle.smallvec.specs.SmallVec.{SmallVec}
use Rattle.qm_warmstart.specs.declared.cover.Exit.{Exit}
use Rattle.qm_warmstart.specs.declared.cover.Place.{Place}
use Rattle.qm_warmstart.specs.declared.cover.Step.{Step}
use Rattle.qm_warmstart.specs.declared.cover.Way.{Way}

-- A way leads between nodes.
abbrev pub LeadsWithin : (nodes : ℕ) (way : Way) → Type 0
LeadsWithin nodes way = (way.plus < nodes) × (way.minus < nodes)

-- An exit leads to a node along a way.
abbrev pub IsExitWithin : (nodes ways : ℕ) (exit : Exit) → Type 0
IsExitWithin nodes ways exit = (exit.to < nodes) × (exit.step.way < ways)

-- A way has its place among so many exits.
abbrev pub IsPlaced : (exits : ℕ) (place : Place) → Type 0
IsPlaced exits place = (place.more < exits) × (place.less < exits)

-- Numbers are all less than one.
abbrev pub AreBelow : (bound : ℕ) (numbers : List ℕ) → Type 0
AreBelow bound numbers = All (λ number. number < bound) numbers

-- Steps go along ways that are among so many.
abbrev pub AreAlong : (ways : ℕ) (steps : List Step) → Type 0
AreAlong ways steps = All (λ (step : Step). step.way < ways) steps

-- The arcs of each chain are among so many, each told by one of its two ends.
abbrev pub AreChains : (arcs : ℕ) (chains : List (SmallVec ℕ)) → Type 0
AreChains arcs chains = All (λ (chain : SmallVec ℕ). All (λ end. end < 2 * arcs) chain.items) chains

-- A key of a node that is among so many.
abbrev pub IsKey : (nodes : ℕ) (key : Reverse ℕ × ℕ) → Type 0
IsKey nodes key = key.1 < nodes
