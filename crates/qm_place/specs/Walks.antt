-- How far a walk along an arc has come.
use Rattle.std.specs.Prelude.{◌≡◌, ℕ, ◌*◌, ◌<◌, ◌≤◌, length}
use Rattle.def_math.specs.Counts.{count_below}
use Rattle.qm_place.specs.Paths.{share_by}
use Rattle.qm_place.specs.declared.path.Path.{Path}
use Rattle.qm_place.specs.declared.walk.Reached.{Reached}

-- The shares of the old edges of a path.
abbrev pub share_in : (path : Path) → ℕ → ℕ
share_in path = share_by path.darts.now path.shares.now path.alike

-- No more shares lie before the old edge that is reached than before place k of so many.
pub record HasReached (path : Path) (at : Reached) (k new : ℕ) : Type 0 where
  pub edge : at.edge < length path.darts.now
  pub before : at.before ≡ count_below (share_in path) at.edge
  pub upto : new * at.before ≤ k * path.all
