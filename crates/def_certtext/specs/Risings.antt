-- How floors rise with `auto`, and without.
use Rattle.std.specs.Prelude.{Bool, true, false}
use Rattle.def_certtext.specs.declared.certs.Rising.{Rising}
use Rattle.def_certtext.specs.declared.certs.Rising.TheVariants.{Never, Third, Rounds}

-- In a remesh they rise to 3 at once.
abbrev pub third_if : (auto : Bool) → Rising
third_if true = Third
third_if false = Never

-- In a fit they rise by need.
abbrev pub rounds_if : (auto : Bool) → Rising
rounds_if true = Rounds
rounds_if false = Never

-- Whether they rise.
abbrev pub may_rise : (rising : Rising) → Bool
may_rise Never = false
may_rise _ = true
