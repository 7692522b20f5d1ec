use Rattle.qm_top.proofs.{Mapped.check_writer, Refusals.writer_runs}

pub returns : Rattle.qm_top.proofs.check.check.Goals.returns
returns g c =
    let read = c.in_ok-bytes.ensures in
    writer_runs _ (check_writer _ {bytes = c.deref.result.now} (rw c.deref.ensures.value
    (record { given = read.bytes; ended = read.whole; few = read.short })) read.calm)
    c.check_bytes.result c.check_bytes.ensures.done c.check_bytes.ensures.refused
