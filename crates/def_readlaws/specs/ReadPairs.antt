-- What `remesh` wrote for bytes is accepted behind them.
use Rattle.std.specs.Prelude.{◌≡◌, ◌++◌, Bool, true}
use Rattle.def_certtext.specs.Settings.{AreInRange}
use Rattle.def_flow.specs.declared.net.Settings.{Settings}
use Rattle.def_io.specs.Bytes.{Bytes}
use Rattle.def_remesh.specs.ReadAgain.{ends_line}
use Rattle.def_run.specs.Checking.{WritesAccepted}
use Rattle.def_run.specs.Remesh.{AsksToRemesh, WritesFinished}

-- What `remesh` writes for bytes whose last line has its line feed, `check` accepts behind these bytes: it has a line
-- to write for both.
abbrev pub AcceptsTextLaw : Type 0
AcceptsTextLaw = (settings : Settings) (auto : Bool) (old text : Bytes) → AreInRange settings auto
    → ends_line old ≡ true → WritesFinished (AsksToRemesh settings auto) old text
    → (line : Bytes) × WritesAccepted (old ++ text) line
