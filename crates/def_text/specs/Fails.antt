-- Why there is no soup, where a step below failed.
use Rattle.def_text.specs.declared.refusal.ObjFail.{ObjFail}
use Rattle.def_text.specs.declared.refusal.ObjFail.TheVariants as obj
use Rattle.def_text.specs.declared.refusal.SoupFail.{SoupFail}
use Rattle.def_text.specs.declared.refusal.SoupFail.TheVariants.{Fault, TooLong, Obj, Memory}
use Rattle.def_io.specs.declared.fails.ReadFail.{ReadFail}
use Rattle.def_io.specs.declared.fails.ReadFail.TheVariants as read

-- That of a text that could not be read.
abbrev pub of_read : (fail : ReadFail) → SoupFail
of_read read.Fault = Fault
of_read read.TooLong = TooLong
of_read read.Memory = Memory

-- That of a text that has no soup.
abbrev pub of_obj : (fail : ObjFail) → SoupFail
of_obj obj.Memory = Memory
of_obj fail = Obj fail
