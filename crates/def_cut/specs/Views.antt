-- A motion as its calls see it.
use Rattle.std.specs.Prelude.{◌≡◌, ℕ, List}
use Rattle.def_mesh.specs.Faces.{Faces}
use Rattle.def_mesh.specs.Components.{start_darts}
use Rattle.def_cut.specs.Events.{EventState, IsMotionOf}

-- The event state, and the darts along which the riders started.
pub record MotionView : Type 0 where
  pub state : EventState
  pub starts : List ℕ

-- A motion of a mesh: events lead to its state, and its riders started where riders start.
pub record IsMotionOn (faces : Faces) (motion : MotionView) : Type 0 where
  pub reached : IsMotionOf faces motion.state
  pub started : motion.starts ≡ start_darts faces

-- The same motion in another state.
abbrev pub with_state : (motion : MotionView) (state : EventState) → MotionView
with_state motion state = record { state = state; starts = motion.starts }
