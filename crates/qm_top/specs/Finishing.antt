-- A task that is finished near the old lengths.
use Rattle.std.specs.Prelude.{Bool, List, [], None}
use Rattle.def_certtext.specs.declared.certs.Terms.{Terms}
use Rattle.def_io.specs.Bytes.{Bytes}
use Rattle.def_remesh.specs.Tasks.{old_lengths, Task}

-- A task over this cut that takes the old lengths. Its text has this head line, and nothing between the new mesh and
-- the certificates.
abbrev pub headed_task : (terms : Terms) (marks : List Bool) (head : Bytes) → Task
headed_task terms marks head = record {
  marks = marks;
  wish = old_lengths;
  settings = terms.settings;
  rising = terms.rising;
  head = head;
  between = λ layout new. [];
  shares = None;
}
