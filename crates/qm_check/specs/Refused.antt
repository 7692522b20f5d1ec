-- Why an old text is refused.
use Rattle.def_marks.specs.declared.fail.MarkFail.{MarkFail}
use Rattle.def_marks.specs.declared.fail.MarkFail.TheVariants as marks
use Rattle.def_run.specs.declared.check_fail.CheckFail.{CheckFail}
use Rattle.def_run.specs.declared.check_fail.CheckFail.TheVariants.{Marks, Old, Memory}
use Rattle.def_text.specs.declared.refusal.ObjFail.{ObjFail}
use Rattle.def_text.specs.declared.refusal.ObjFail.TheVariants as obj

-- The refusal of an old text that has no soup.
abbrev pub of_obj : (fail : ObjFail) → CheckFail
of_obj obj.Memory = Memory
of_obj fail = Old fail

-- The refusal of one with a line beside its mesh that is refused.
abbrev pub of_marks : (fail : MarkFail) → CheckFail
of_marks marks.Memory = Memory
of_marks fail = Marks fail
