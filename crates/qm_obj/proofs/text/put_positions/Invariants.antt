use Rattle.{def_text.specs.Canonical.position_text, std.proofs.Common.take, std.specs.List.flat_map}

abbrev pub invariant-loop-position : Rattle.qm_obj.proofs.text.put_positions.Given.invariant-loop-position
invariant-loop-position g l =
    g.T.Output.takes l.initial.out l.out (flat_map position_text (take l.position-index l.positions))
