use Rattle.{std.proofs.Common.◌∙◌, qm_scan.proofs.Numbers.short_unclamped}

pub returns-then-word-le18 : Rattle.qm_scan.proofs.number.read_number.Goals.returns-then-word-le18
returns-then-word-le18 c = c.read_short.ensures ∙ short_unclamped c.args.word.now c.if-word-le18.true
