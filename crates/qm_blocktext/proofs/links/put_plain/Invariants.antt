use Rattle.{std.proofs.Common.take, std.specs.List.flat_map, def_blocks.specs.BlockTexts.link_line}

abbrev pub invariant-loop-link : Rattle.qm_blocktext.proofs.links.put_plain.Given.invariant-loop-link
invariant-loop-link g l = g.T.Output.takes l.initial.out l.out (flat_map link_line (take l.link-index l.links))
