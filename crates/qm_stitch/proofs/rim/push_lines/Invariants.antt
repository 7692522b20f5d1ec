use Rattle.std.proofs.Common.{◌≡◌, ◌≤◌, ◌-◌, ◌++◌, not}
use Rattle.qm_stitch.specs.Rims.{along_lines, keys_of, lines_upto}
use Rattle.{def_layout.specs.Lengths.size, qm_stitch.specs.Lengthened.gluing_in, qm_stitch.specs.Lengthened.lengths_by}

abbrev pub invariant-loop-number : Rattle.qm_stitch.proofs.rim.push_lines.Given.invariant-loop-number
invariant-loop-number l = record {
  some : 1 ≤ l.number;
  upto : l.number ≤ size (gluing_in l.numbered) (lengths_by l.numbered) l.patch (along_lines (not l.upright));
  items : l.keys.items ≡ l.initial.keys.items ++ keys_of (gluing_in l.numbered) (lengths_by l.numbered)
      (lines_upto (gluing_in l.numbered) (lengths_by l.numbered) l.upright l.patch (l.number - 1));
}
