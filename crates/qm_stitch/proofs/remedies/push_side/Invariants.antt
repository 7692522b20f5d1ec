use Rattle.std.proofs.Common.{◌≤◌, ◌<◌, ℕ, not}
use Rattle.qm_stitch.specs.{Lengthened.gluing_in, Lengthened.lengths_by, Remedies.AddsRemedies, Rims.along_lines}
use Rattle.{def_layout.specs.Lengths.size, qm_stitch.proofs.Lines.IsInLine}

abbrev pub invariant-loop-number : Rattle.qm_stitch.proofs.remedies.push_side.Given.invariant-loop-number
invariant-loop-number l = record {
  some : 1 ≤ l.number;
  upto : l.number ≤ size (gluing_in l.priced.keyed.numbered) (lengths_by l.priced.keyed.numbered) l.patch
      (along_lines (not l.upright));
  adds : AddsRemedies l.initial.found.items l.found.items
      (λ r. (n : ℕ) × (n < l.number) × IsInLine l.priced l.patch l.side l.price n r);
}
