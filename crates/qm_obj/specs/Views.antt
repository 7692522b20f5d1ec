-- What readers of lines and of pieces keep of a text.
use Rattle.def_feed.specs.Kept.{KeptText}
use Rattle.def_io.specs.Bytes.{Bytes}
use Rattle.qm_obj.specs.declared.joiner.Joiner.{Joiner}
use Rattle.qm_obj.specs.declared.progress.Progress.{Progress}

-- What a joiner of lines keeps, with these bytes behind the last line feed.
abbrev pub kept_of : (joiner : Joiner) (tail : Bytes) → KeptText
kept_of joiner tail = record {
  positions = joiner.reader.positions.items;
  faces = joiner.reader.faces.items;
  lines = joiner.reader.lines.items;
  next = joiner.next;
  begun = joiner.begun;
  joined = joiner.joined.items;
  tail = tail;
}

-- What is kept of a text as far as it is read.
abbrev pub kept_at : (progress : Progress) → KeptText
kept_at progress = kept_of progress.joiner progress.tail.items
