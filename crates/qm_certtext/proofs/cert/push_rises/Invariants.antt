use Rattle.std.proofs.Common.{◌≡◌, ◌++◌, drop, map}
use Rattle.def_certtext.specs.{CertLines.text_of, declared.CertLine.TheVariants.Rise}

abbrev pub invariant-loop-rise : Rattle.qm_certtext.proofs.cert.push_rises.Given.invariant-loop-rise
invariant-loop-rise l =
    l.text.items ++ text_of (map Rise (drop l.rise-index l.rises)) ≡ l.fn.text.items ++ text_of (map Rise l.rises)
