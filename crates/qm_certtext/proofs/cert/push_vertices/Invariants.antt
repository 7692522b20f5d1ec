use Rattle.std.proofs.Common.{◌≡◌, ◌++◌, drop}
use Rattle.def_certtext.specs.{CertLines.dual_lines, CertLines.text_of, declared.CertLine.TheVariants.Vertex}

abbrev pub invariant-loop-i : Rattle.qm_certtext.proofs.cert.push_vertices.Given.invariant-loop-i
invariant-loop-i l = l.text.items ++ text_of (dual_lines Vertex (drop l.i l.numbers) (drop l.i l.ups)) ≡ l.fn.text.items
    ++ text_of (dual_lines Vertex l.numbers l.ups)
