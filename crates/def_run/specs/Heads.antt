-- The head lines of commands that remesh over another cut than `remesh` does.
use Rattle.std.specs.Prelude.{false, List, Bool, None, [], ◌++◌, codes}
use Rattle.def_certtext.specs.Settings.{floor_text, scale_text, weight_text}
use Rattle.def_certtext.specs.declared.certs.Rising.TheVariants.{Never}
use Rattle.def_flow.specs.declared.net.Settings.{Settings}
use Rattle.def_io.specs.Bytes.{Bytes}
use Rattle.def_remesh.specs.Tasks.{old_lengths, Task}
use Rattle.def_text.specs.Types.{Word}

-- The head line of the command of this name with these settings, whose floor is a number. The scale stands as it was
-- given.
abbrev pub named_head : (name : Word) (settings : Settings) → Bytes
named_head name settings =
    codes "#quadq 1 " ++ name ++ codes " scale " ++ scale_text settings
    ++ codes " floor " ++ floor_text settings.floor false ++ codes " weight " ++ weight_text settings.weight

-- A remesh over a cut, near the old lengths, with this head line.
abbrev pub named_task : (name : Word) (settings : Settings) (marks : List Bool) → Task
named_task name settings marks = record {
  marks = marks;
  wish = old_lengths;
  settings = settings;
  rising = Never;
  head = named_head name settings;
  between = λ layout new. [];
  shares = None;
}
