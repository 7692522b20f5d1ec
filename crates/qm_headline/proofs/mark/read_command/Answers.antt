use Rattle.def_run.specs.declared.command.Command.TheVariants.{Refine, Remesh, Crease, Size, Coarse, Fit}
use Rattle.qm_headline.proofs.mark.read_command.Goals as goal

pub returns-in-Some-read_fixed : goal.returns-in-Some-read_fixed
returns-in-Some-read_fixed c =
    record { written = c.in-Some-read_fixed.ensures.1; in_range = c.in-Some-read_fixed.ensures.0 }

pub returns-in-Some-read_fixed-2 : goal.returns-in-Some-read_fixed-2
returns-in-Some-read_fixed-2 c =
    record { written = c.in-Some-read_fixed-2.ensures.1; in_range = c.in-Some-read_fixed-2.ensures.0 }

-- A line that is the head line of none of the six is that of no command.
pub returns-in-None : goal.returns-in-None
returns-in-None c (Refine by) is = c.in_default.ensures by is
returns-in-None c (Remesh settings auto) is = c.in_default-read_head.ensures settings auto is
returns-in-None c (Crease settings) is = c.in_default-read_fixed.ensures settings is.in_range is.written
returns-in-None c (Size edge floor) is = c.in_default-read_size.ensures edge floor is
returns-in-None c (Coarse settings) is = c.in_default-read_fixed-2.ensures settings is.in_range is.written
returns-in-None c (Fit asked) is = c.in-None.ensures asked is.in_range is.written
returns-in-None c _ is = is
