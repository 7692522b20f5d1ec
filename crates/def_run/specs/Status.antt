-- How the program ends.
use Rattle.std.specs.Prelude.{ℕ}
use Rattle.def_run.specs.declared.answer.Answer.{Answer}
use Rattle.def_run.specs.declared.answer.Answer.TheVariants.{Done, NotAccepted, Usage, Syntax, NotQuad, Range, Limit}
use Rattle.def_run.specs.declared.answer.Answer.TheVariants.{NotManifold, NotEdge, Tangled, TooFine, Doubled}
use Rattle.def_run.specs.declared.answer.Answer.TheVariants.{ReadFault, WriteFault, Memory, Far}

-- The exit status of an answer.
abbrev pub status_of : (answer : Answer) → ℕ
status_of Done = 0
status_of (NotAccepted why) = 1
status_of Usage = 2
status_of (Syntax line) = 3
status_of (NotQuad line corners) = 4
status_of (Range line) = 5
status_of (Limit which line) = 6
status_of (NotManifold place) = 7
status_of (Tangled count) = 9
status_of (TooFine faces kept) = 10
status_of (Doubled u v cert) = 11
status_of ReadFault = 12
status_of WriteFault = 13
status_of Memory = 14
status_of (NotEdge line) = 16
status_of (Far sum) = 17
