-- How a run and a process end.
use Rattle.std.specs.Prelude.{◌≡◌, ◌≢◌, ◌⊎◌, ℕ, Option}
use Rattle.def_io.specs.Faults.{Rose}
use Rattle.def_io.specs.Moves.{Change, IsStill, Stream}
use Rattle.def_io.specs.Words.{ReadsWords}
use Rattle.def_text.specs.Types.{Words}
use Rattle.def_run.specs.Causes.{IsGood, Ran}
use Rattle.def_run.specs.CommandLines.{IsAcceptedLine, IsCommand}
use Rattle.def_run.specs.Messages.{SaidWhy}
use Rattle.def_run.specs.Remesh.{IsSettled}
use Rattle.def_run.specs.Reread.{WroteReread}
use Rattle.def_run.specs.Solving.{IsUntangled}
use Rattle.def_run.specs.Status.{status_of}
use Rattle.def_run.specs.declared.answer.Answer.{Answer}
use Rattle.def_run.specs.declared.answer.Answer.TheVariants.{Done, Usage, ReadFault, WriteFault, Memory}
use Rattle.def_run.specs.declared.command.Command.{Command}
use Rattle.def_run.specs.declared.command.Command.TheVariants.{Bench}
use Rattle.def_run.specs.declared.command.TheConstants.{MAX_WORD}

-- Memory was wanting, or the source or the sink failed.
abbrev pub WasShort : (input out : Change) (answer : Answer) → Type 0
WasShort input out answer =
    (answer ≡ Memory) ⊎ (Rose input.faults input.faults_now ⊎ Rose out.faults out.faults_now)

-- Running these words gives this answer: it has its cause, and its line is told; what is good is done, and a network
-- that is not too tangled gets least lengths; a new mesh that was written is read again; and each stream that the
-- answer leaves alone is as it was.
pub record RunsTo {S O E : Type 0} (words : Words) (input : Stream S) (out : Stream O) (err : Stream E)
    (answer : Answer) : Type 0 where
  pub usage : answer ≡ Usage → ¬ IsAcceptedLine words
  pub ran : answer ≢ Usage → answer ≢ Memory → Ran words input.change out.change answer
  pub reread : answer ≡ Done → WroteReread words input.change out.change
  pub told : answer ≢ Done → SaidWhy words input.change err.change answer
  pub complete : (command : Command) → IsCommand words command → IsGood command input.change.told
      → (answer ≡ Done) ⊎ WasShort input.change out.change answer
  pub settled : (command : Command) → IsCommand words command → IsUntangled command input.change.told
      → IsSettled answer ⊎ WasShort input.change out.change answer
  pub untouched : answer ≢ Done → answer ≢ WriteFault → IsStill out
  pub quiet : answer ≡ Done → IsStill err
  pub unread : answer ≡ Usage → IsStill input
  pub unasked : (size : ℕ) → IsCommand words (Bench size) → IsStill input
  pub calm : answer ≢ ReadFault → answer ≢ Memory → input.change.faults_now ≡ input.change.faults

-- The status is that of the answer.
pub record Exits {S O E : Type 0} (words : Words) (input : Stream S) (out : Stream O) (err : Stream E)
    (status : ℕ) : Type 0 where
  pub answer : Answer
  pub runs : RunsTo words input out err answer
  pub said : status ≡ status_of answer

-- There was no memory for the words, and nothing was touched.
pub record GaveUp {S O E : Type 0} (input : Stream S) (out : Stream O) (err : Stream E) (status : ℕ) : Type 0 where
  pub unread : IsStill input
  pub untouched : IsStill out
  pub quiet : IsStill err
  pub said : status ≡ status_of Memory

-- A process that was given these words ran them and has the status of the answer, or gave up before it had read them.
-- A word that is no UTF-8 text, or longer than any of an accepted line, is run as the empty word, which stands in none.
abbrev pub Ends : {S O E : Type 0} (given : Option Words) (input : Stream S) (out : Stream O) (err : Stream E)
    (status : ℕ) → Type 0
Ends given input out err status = GaveUp input out err status
    ⊎ ((words : Words) × ReadsWords MAX_WORD given words × Exits words input out err status)
