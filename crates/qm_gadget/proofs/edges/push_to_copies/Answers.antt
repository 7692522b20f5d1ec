use Rattle.std.proofs.{Common.rules, lemmas.List.get_or_read}
use Rattle.{table_laws.proofs.Ranges.part_low, qm_gadget.specs.Layout.copies_in}

pub push_fan-requires : Rattle.qm_gadget.proofs.edges.push_to_copies.Goals.push_fan-requires
push_fan-requires c =
    let laid = c.args.copies.now.laid_out in
    let v = c.args.end.now.node in
    search (rules, get_or_read, part_low (copies_in c.args.copies.now.counts.items) v)
