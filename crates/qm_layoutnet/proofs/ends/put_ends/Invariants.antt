use Rattle.{std.proofs.Common.◌≡◌, std.proofs.Common.length, std.proofs.Common.drop, qm_layoutnet.specs.Ends.with_ends}

-- the ends of the uses that are left give what all of them do
abbrev pub invariant-loop-used : Rattle.qm_layoutnet.proofs.ends.put_ends.Given.invariant-loop-used
invariant-loop-used l = record {
  rest : with_ends l.end (drop l.used-index l.side) l.arcs ≡ with_ends l.end l.side l.initial.arcs;
  long : length l.arcs ≡ length l.initial.arcs;
}
