use Rattle.{std.proofs.Common.◌≡◌, def_text.specs.Text.numbers_to}

abbrev pub invariant-loop-number : Rattle.qm_gen.proofs.steps.numbers_to.Given.invariant-loop-number
invariant-loop-number l = l.numbers.items ≡ numbers_to l.number
