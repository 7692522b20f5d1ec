use Rattle.std.proofs.Common.{sym, ◌∙◌}
use Rattle.qm_merge.proofs.Rounds.{among_four, around, is_one_of}

pub returns : Rattle.qm_merge.proofs.links.Linked.is_around.Goals.returns
returns c =
    let f = c.is_full.ensures in
    let among = among_four c.args.s c.round_from-round.result c.args.t in
    let is = c.round_from-round.ensures in (
      λ h. around f.laws f.full is c.args.t (among.0 (sym c.contains.ensures.value ∙ h)),
      λ a. c.contains.ensures.value ∙ among.1 (is_one_of f.laws f.full is c.args.t c.requires.other a),
    )
