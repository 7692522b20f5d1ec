use Rattle.qm_top.proofs.{Mapped.map_writer, Refusals.writer_runs}

pub returns : Rattle.qm_top.proofs.map.map.Goals.returns
returns g c =
    let read = c.in_ok-bytes.ensures in
    writer_runs _ (map_writer _ {bytes = c.deref.result.now} (rw c.deref.ensures.value
    (record { given = read.bytes; ended = read.whole; few = read.short })) read.calm)
    c.map_bytes.result c.map_bytes.ensures.done c.map_bytes.ensures.refused
