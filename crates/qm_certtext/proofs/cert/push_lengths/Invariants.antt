use Rattle.std.proofs.Common.{◌≡◌, ◌++◌, drop, map}
use Rattle.def_certtext.specs.{CertLines.text_of, declared.CertLine.TheVariants.Length}

abbrev pub invariant-loop-n : Rattle.qm_certtext.proofs.cert.push_lengths.Given.invariant-loop-n
invariant-loop-n l =
    l.text.items ++ text_of (map Length (drop l.n-index l.lengths)) ≡ l.fn.text.items ++ text_of (map Length l.lengths)
