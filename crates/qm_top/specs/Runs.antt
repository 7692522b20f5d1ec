-- What a command's call keeps.
use Rattle.std.specs.Prelude.{◌≢◌, Result, OnOk, IfErr}
use Rattle.def_io.specs.Moves.{Change, IsStill, Stream}
use Rattle.def_run.specs.declared.answer.Answer.TheVariants.{WriteFault}
use Rattle.def_run.specs.declared.command.Command.{Command}
use Rattle.qm_top.specs.Refusals.{answer_of, Ended, Finished}
use Rattle.qm_top.specs.declared.refusal.Refusal.{Refusal}

-- The command's text is written, or a refusal has its cause; and the sink is as it was unless the write failed.
pub record HasRun {O : Type 0} (command : Command) (input : Change) (out : Stream O)
    (result : Result (Unit {0}) Refusal) : Type 0 where
  pub done : OnOk result (Finished command input out.change)
  pub refused : IfErr result (Ended command input out.change)
  pub untouched : IfErr result (λ refusal. answer_of refusal ≢ WriteFault → IsStill out)
