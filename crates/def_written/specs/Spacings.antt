-- Where the new points of arcs may lie, and where they lie if each new edge of an arc gets an equal part of the shares
-- of its old edges.
use Rattle.std.specs.Prelude.{◌≡◌, ℕ, ◌+◌, ◌-◌, ◌*◌, ◌/◌, ◌<◌, ◌==◌, Bool, true, false, cond}
use Rattle.def_math.specs.Counts.{count_below}
use Rattle.def_math.specs.Runs.{run_at}
use Rattle.def_layout.specs.Gluings.{Gluing}
use Rattle.def_layout.specs.Lengths.{Lengths}
use Rattle.def_written.specs.Places.{ONE, ArcSpacing, Step}

-- From either end the parameter runs from 0 to the old length, which only the other end has, and each place before the
-- end of an arc lies before the end of one of its old edges.
pub record IsSpacing (gluing : Gluing) (old new : Lengths) (spacing : ArcSpacing) : Type 0 where
  pub begins : (arc : ℕ) (forward : Bool) → arc < gluing.arcs → spacing.parameter_of arc forward 0 ≡ 0
  pub ends : (arc : ℕ) (forward : Bool) → arc < gluing.arcs
      → spacing.parameter_of arc forward (new arc) ≡ ONE * old arc
  pub below : (arc : ℕ) (forward : Bool) (k : ℕ) → arc < gluing.arcs → k < new arc
      → spacing.parameter_of arc forward k < ONE * old arc
  pub edges : (arc k : ℕ) → arc < gluing.arcs → k < new arc → (spacing.step arc k).edge < old arc
  pub parts : (arc k : ℕ) → arc < gluing.arcs → k < new arc → (spacing.step arc k).some < (spacing.step arc k).parts

-- What each old edge of an arc asks for: the edges of an arc are counted from 0.
abbrev pub Shares : Type 0
Shares = (arc edge : ℕ) → ℕ

-- Where all of so many edges ask for nothing, they count alike.
abbrev pub counted : (share : ℕ → ℕ) (edges : ℕ) → ℕ → ℕ
counted share edges = cond (count_below share edges == 0) (λ edge. 1) share

-- Place k of n between the ends of an arc has k of n equal parts of the shares before it: it lies in the last of so
-- many old edges before which there are no more, and as far along it as the rest is a part of its share.
abbrev pub inner_step : (share : ℕ → ℕ) (edges new k : ℕ) → Step
inner_step share edges new k =
    let before = k * count_below share edges in
    let edge = run_at (λ i. new * count_below share i) edges before in
    record {
      edge = edge;
      some = ONE * (before - new * count_below share edge) / (new * share edge);
      parts = ONE;
    }

-- The beginning of an old edge.
abbrev pub edge_begin : (edge : ℕ) → Step
edge_begin edge = record { edge = edge; some = 0; parts = ONE }

-- Place k of an arc, its ends too.
abbrev pub shared_step : (old new : Lengths) (shares : Shares) (arc k : ℕ) → Step
shared_step old new shares arc k =
    cond (k == 0) (edge_begin 0)
    (cond (k == new arc) (edge_begin (old arc))
    (inner_step (counted (shares arc) (old arc)) (old arc) (new arc) k))

-- The parameter of a step, whose parts are those of a parameter.
abbrev pub step_parameter : (step : Step) → ℕ
step_parameter step = ONE * step.edge + step.some

-- Its parameter. From the end of the arc it is what is left of the old length.
abbrev pub shared_parameter : (old new : Lengths) (shares : Shares) (arc : ℕ) (forward : Bool) (k : ℕ) → ℕ
shared_parameter old new shares arc true k = step_parameter (shared_step old new shares arc k)
shared_parameter old new shares arc false k =
    ONE * old arc - step_parameter (shared_step old new shares arc (new arc - k))

-- The new points of an arc at equal parts of its shares.
abbrev pub shared : (old new : Lengths) (shares : Shares) → ArcSpacing
shared old new shares =
    record { step = shared_step old new shares; parameter_of = shared_parameter old new shares }
