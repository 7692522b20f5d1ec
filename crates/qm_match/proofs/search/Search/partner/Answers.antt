use Rattle.std.proofs.Common.{arith, sym, ◌∙◌}

pub far_blossom-requires : Rattle.qm_match.proofs.search.Search.partner.Goals.far_blossom-requires
far_blossom-requires c = grind (arith, c.requires.valid.valid.matched c.args.b c.in-Some.m)
