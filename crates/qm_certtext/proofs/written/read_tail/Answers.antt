use Rattle.{def_io.specs.Bytes.Lines, std.proofs.Common.[], std.proofs.Common.ap, std.proofs.Common.slice_index_or}
use Rattle.qm_certtext.proofs.written.read_tail.Goals as goal

pub returns-in_default-read_head-clause-fails : goal.returns-in_default-read_head-clause-fails
returns-in_default-read_head-clause-fails c settings auto head = c.in_default-read_head.ensures settings auto
    (rw (← ap (λ (ls : Lines). slice_index_or ls 0 []) c.in-Some.ensures.line) head)
