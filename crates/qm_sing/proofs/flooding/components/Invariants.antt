use Rattle.{std.proofs.Common.◌≡◌, std.proofs.Common.length, qm_sing.specs.Floods.IsNumbering}

-- The components whose least face is below f have their numbers.
abbrev pub invariant-loop-f : Rattle.qm_sing.proofs.flooding.components.Given.invariant-loop-f
invariant-loop-f l = record {
  numbering : IsNumbering l.mesh l.f l.components l.numbers.items;
  empty : length l.waiting.items ≡ 0;
}
